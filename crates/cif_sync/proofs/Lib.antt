mod BucketLaws
mod PlaceLaws
mod RoleLaws
