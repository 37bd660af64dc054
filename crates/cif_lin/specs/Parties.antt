-- Helper of the code: those that take part, as plain data.
use Rattle.cif_lin.specs.declared.party.Party.{Party}
use Rattle.cif_lin.specs.Pieces.{Cell}

abbrev pub cell_tree : Party → Cell
cell_tree p = record { auto = p.number; options = p.options }
