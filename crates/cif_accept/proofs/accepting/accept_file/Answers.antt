use Rattle.std.proofs.Common.{subst}
use Rattle.cif_front.specs.Loads.{Loads}
use Rattle.cif_accept.proofs.AcceptLaws.{file_loaded}
use Rattle.cif_accept.proofs.accepting.accept_file.Goals as goal

pub returns-in-Ok-net_of-clause-loaded : goal.returns-in-Ok-net_of-clause-loaded
returns-in-Ok-net_of-clause-loaded g c =
    file_loaded (g.F.Files.content c.args.files.now) c.args.file.now c.in-Ok.source.items c.in-Ok-net_of.net c.in-Ok.ensures.whole c.in-Ok.ensures.within
    (subst (λ bytes. Loads bytes c.in-Ok-net_of.net) c.as_slice.ensures.value c.in-Ok-net_of.ensures.loaded)
