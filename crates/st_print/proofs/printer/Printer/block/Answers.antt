use Rattle.st_print.proofs.printer.Printer.block.Goals as goal

pub returns-in-Input : goal.returns-in-Input
returns-in-Input c = rw c.in-Input.is c.keyword_line-in-Input.ensures

pub returns-in-Output : goal.returns-in-Output
returns-in-Output c = rw c.in-Output.is c.keyword_line-in-Output.ensures
