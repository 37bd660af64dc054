-- What a choice sends, as the code has it.
use Rattle.cif_why.specs.Leaving as l
use Rattle.cif_why.specs.declared.leaving.Sending.{Sending}

abbrev pub sends : Sending → l.Sending
sends t = record { fits = t.fits; received = t.received }
