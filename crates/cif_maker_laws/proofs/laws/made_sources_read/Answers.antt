use Rattle.cif_maker_laws.proofs.MadeReads.{made_text_reads}
use Rattle.cif_maker_laws.proofs.laws.made_sources_read.Goals as goal

pub returns : goal.returns
returns c = made_text_reads
