-- The groups of statuses that are the same for every command.
use Rattle.std.specs.Prelude.{◌≡◌, ◌⊎◌, ℕ}
use Rattle.cif_run.specs.declared.status.Status.{Status}
use Rattle.cif_run.specs.declared.status.Status.TheVariants as status

pub data Group : Type 0 where
  -- the whole text was written
  done : Group
  -- the file in this word was not read
  unread : ℕ → Group
  -- the file in this word is longer than it may be
  too_long : ℕ → Group
  -- the text was not written, or only its beginning
  unwritten : Group
  -- no memory was found
  wanting : Group
  -- the words, or what the files hold, is refused: a command says why
  judged : Group
  -- the command stopped on its way with this status, after it wrote the text up to there
  halted : Status → Group

abbrev pub group_of : Status → Group
group_of status.Done = done
group_of status.Usage = judged
group_of (status.ReadFault k) = unread k
group_of status.WriteFault = unwritten
group_of status.Memory = wanting
group_of (status.TooBig k) = too_long k
group_of (status.Refused why) = judged
group_of (status.OutsideProfile why) = judged
group_of (status.StRefused why) = judged
group_of (status.RowRefused why) = judged
group_of (status.ScanFault k e) = judged
group_of (status.Budget k) = judged
group_of (status.Stopped k why) = halted (status.Stopped k why)
group_of (status.BadTrace log k) = judged
group_of (status.LogRefused log k) = judged
group_of status.NoEvent = judged

-- this status, or want of memory
abbrev pub IsUnlessMemory : Status → Status → Type 0
IsUnlessMemory s t = (s ≡ t) ⊎ (s ≡ status.Memory)
