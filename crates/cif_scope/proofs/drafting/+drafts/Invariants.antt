use Rattle.std.proofs.Common.{◌≡◌, ◌++◌, length, drop}
use Rattle.cif_ast.specs.View.{view_items}
use Rattle.cif_source.specs.Source.{source_items}
use Rattle.cif_scope.specs.Drafts.{scopes_in, names_in}
use Rattle.cif_scope.proofs.drafting.+drafts.Given as goal

abbrev pub invariant-add_items-loop-item : goal.invariant-add_items-loop-item
invariant-add_items-loop-item l = record {
  scopes : l.scopes ++ scopes_in l.own (length l.scopes) (source_items (view_items (drop l.item-index l.items))) ≡ l.fn.scopes ++ scopes_in l.own (length l.fn.scopes) (source_items (view_items l.items));
  names : l.draft.names ++ names_in (length l.scopes) l.draft.instances (source_items (view_items (drop l.item-index l.items)))
      ≡ l.fn.draft.names ++ names_in (length l.fn.scopes) l.fn.draft.instances (source_items (view_items l.items));
}
