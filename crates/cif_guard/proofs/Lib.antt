mod GuardLaws
