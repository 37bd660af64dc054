use Rattle.plc_frame.proofs.ScanLaws.{few-algs-shown, few-inputs-shown, few-places-shown, few-variables-shown}
use Rattle.plc_frame.proofs.faces.shown_faces.Goals as goal

pub returns : goal.returns
returns c = record {
  places = c.in_ok-places.ensures;
  variables = c.in_ok-variables.ensures;
  inputs = c.in_ok-inputs.ensures;
  algs = c.in_ok-algs.ensures;
  few_places = few-places-shown c.args.net.now c.in_ok-places.places c.in_ok-places.ensures;
  few_variables = few-variables-shown c.args.net.now c.in_ok-variables.variables c.in_ok-variables.ensures;
  few_inputs = few-inputs-shown c.args.net.now c.in_ok-inputs.inputs c.in_ok-inputs.ensures;
  few_algs = few-algs-shown c.args.net.now c.in_ok-algs.algs c.in_ok-algs.ensures;
}
