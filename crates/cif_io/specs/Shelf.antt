-- Files in memory, where the first entry of a name counts.
use Rattle.std.specs.Prelude.{ℕ, List, Option, Bool, ◌||◌, is_none, position, slice_get, slice_index, option_and_then}
use Rattle.std.specs.Option.{option_map, option_map_or}
use Rattle.std.specs.Str.{bytes_eq}
use Rattle.cif_io.specs.Faults.{is_chosen}
use Rattle.cif_io.specs.declared.memory_files.MemFile.{MemFile}

-- the place of the first file of this name
abbrev pub place : List MemFile → List ℕ → Option ℕ
place files name = position (λ f. bytes_eq f.name name) files

-- the bytes of the first file of this name
abbrev pub content_of : List MemFile → List ℕ → Option (List ℕ)
content_of files name = option_map (λ f. f.bytes) (option_and_then (slice_get files) (place files name))

-- files, the count of faults of each, the numbers of the reads that fail, and the number of reads so far
pub record Shelf : Type 0 where
  pub files : List MemFile
  pub counts : List ℕ
  pub fails : List ℕ
  pub calls : ℕ

-- the count of faults of a name; of one that isn't held, the number of reads so far
abbrev pub faults_of : Shelf → List ℕ → ℕ
faults_of s name = option_map_or (λ at. slice_index s.counts at) (place s.files name) s.calls

-- whether the next read, of this name, fails
abbrev pub refuses : Shelf → List ℕ → Bool
refuses s name = is_chosen s.fails s.calls || is_none (place s.files name)
