-- What a reason stands for.
use Rattle.cif_why_model.specs.Reasons as why
use Rattle.cif_why.specs.declared.reason.Reason.{Reason}
use Rattle.cif_why.specs.declared.reason.Reason.TheVariants as reason

abbrev pub reason_tree : Reason → why.Reason
reason_tree reason.NoRole = why.no_role
reason_tree (reason.Blocks k) = why.blocks k
reason_tree reason.NoSender = why.no_sender
reason_tree reason.NoReceiver = why.no_receiver
reason_tree (reason.Excluded k) = why.excluded k
reason_tree (reason.Leaves k j number) = why.leaves k j number
reason_tree (reason.Breaks k) = why.breaks k
