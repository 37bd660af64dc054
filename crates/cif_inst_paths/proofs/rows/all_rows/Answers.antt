use Rattle.std.proofs.Common.{map, ◌∙◌, ap}
use Rattle.cif_source.specs.Source.{source_of}
use Rattle.cif_scope.specs.Written.{body_of_written}
use Rattle.cif_inst_paths.specs.Rows.{AreBodiesOf}
use Rattle.cif_inst_paths.specs.declared.rows.Bodies.{Bodies}
use Rattle.cif_inst_paths.proofs.RowLaws.{row_pushed, row_made, number_below, rows_whole}
use Rattle.cif_inst_paths.proofs.rows.all_rows.Goals as goal

pub prefix_at-requires-clause-bodies : goal.prefix_at-requires-clause-bodies
prefix_at-requires-clause-bodies c = record {
  scopes = c.requires.scopes;
  components = c.requires.components;
  written = ap (map body_of_written) c.as_slice.ensures.value ∙ c.in_ok-written.ensures;
}

pub prefix_at-requires-clause-component : goal.prefix_at-requires-clause-component
prefix_at-requires-clause-component c =
    number_below (source_of c.args.spec.now) c.args.components.now c.requires.components c.len.result c.in_ok-component-end.component-end c.len.ensures c.in_ok-component-end.ensures.is
    c.loop-component.component c.loop-component-test.true

pub loop-component-preserved : goal.loop-component-preserved
loop-component-preserved c =
    let bodies : Bodies = record { spec = c.args.spec; scopes = c.args.scopes; components = c.args.components; written = c.as_slice.result } in
    let are : AreBodiesOf (source_of c.args.spec.now) bodies = record {
      scopes = c.requires.scopes;
      components = c.requires.components;
      written = ap (map body_of_written) c.as_slice.ensures.value ∙ c.in_ok-written.ensures;
    } in
    let below =
    number_below (source_of c.args.spec.now) c.args.components.now c.requires.components c.len.result c.in_ok-component-end.component-end c.len.ensures c.in_ok-component-end.ensures.is
    c.loop-component.component c.loop-component-test.true in
    row_pushed (source_of c.args.spec.now) bodies are c.loop-component.component below c.loop-component.rows.items c.push.new.self.items
    (record { prefix = c.in_ok-prefix.prefix; inside = c.inside_at-inside.result })
    c.loop-component.invariant c.in_ok-push.ensures.items
    (row_made (source_of c.args.spec.now) bodies are c.loop-component.component below (record { prefix = c.in_ok-prefix.prefix; inside = c.inside_at-inside.result }) c.in_ok-prefix.ensures c.inside_at-inside.ensures)

pub returns : goal.returns
returns c =
    rows_whole (source_of c.args.spec.now) c.args.components.now c.requires.components c.len.result c.in_ok-component-end.component-end c.len.ensures c.in_ok-component-end.ensures.is
    c.loop-component.rows.items c.loop-component.component c.loop-component-test.false c.loop-component.invariant
