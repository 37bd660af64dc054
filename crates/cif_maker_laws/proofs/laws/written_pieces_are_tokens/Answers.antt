use Rattle.cif_maker_laws.proofs.Pieces.{written_tokens}
use Rattle.cif_maker_laws.proofs.laws.written_pieces_are_tokens.Goals as goal

pub returns : goal.returns
returns c = written_tokens
