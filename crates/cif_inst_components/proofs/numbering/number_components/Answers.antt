use Rattle.std.proofs.Common.{◌≡◌, ◌∙◌, List, map, sym, ap, subst, Err, refl}
use Rattle.cif_system.specs.Words.{AreDistinct}
use Rattle.cif_inst_components.specs.declared.components.Component.{Component}
use Rattle.std.specs.Prelude.{filter_map}
use Rattle.std.proofs.lemmas.Result.{err_from_is_err_and}
use Rattle.cif_source.specs.Source.{Source, source_of}
use Rattle.cif_scope.specs.Written.{body_of_written, written_bodies}
use Rattle.cif_inst_components.specs.Kids.{all_kids}
use Rattle.cif_inst_components.specs.Sizes.{written_size}
use Rattle.cif_inst_components.specs.Outers.{definition_names}
use Rattle.cif_inst_components.specs.Numbers.{stands_of}
use Rattle.cif_inst_components.proofs.ListNumbers.{sizes-are, too-many, not-too-many, few-listed, all-components, numbered, refused}
use Rattle.cif_inst_components.proofs.FindChildren.{places-distinct}
use Rattle.cif_inst_components.proofs.OuterLaws.{found-outers}
use Rattle.cif_scope.specs.declared.written.Written.{Written}
use Rattle.cif_inst_components.proofs.numbering.number_components.Goals as goal

pub children_of-requires : goal.children_of-requires
children_of-requires c =
    let t : Source = source_of c.args.spec.now in
    let kids : c.as_slice-2.result.now ≡ all_kids c.args.scopes.now = c.as_slice-2.ensures ∙ c.in_ok-kids.ensures in
    let sizes : c.as_slice-3.result.now ≡ map written_size (written_bodies t) =
    sizes-are t c.in_ok-written.written.items c.as_slice.result.now c.in_ok-sizes.sizes c.as_slice-3.result.now c.in_ok-written.ensures c.as_slice.ensures.value c.in_ok-sizes.ensures c.as_slice-3.ensures in
    let few = few-listed t c.args.scopes.now c.requires c.as_slice-2.result.now c.as_slice-3.result.now kids sizes c.in_ok-all.all c.in_ok-all.ensures.all c.in_ok-all.ensures.few in
    let rows = all-components t c.args.scopes.now c.requires c.as_slice-2.result.now c.as_slice-3.result.now kids sizes c.in_ok-all.all c.in_ok-all.ensures.all in
    subst (λ (cs : List Component). AreDistinct (filter_map stands_of cs)) (sym c.as_slice-4.ensures) (places-distinct t c.args.scopes.now c.requires few c.in_ok-all.all rows)

pub returns-clause-numbers : goal.returns-clause-numbers
returns-clause-numbers c =
    let t : Source = source_of c.args.spec.now in
    let kids : c.as_slice-2.result.now ≡ all_kids c.args.scopes.now = c.as_slice-2.ensures ∙ c.in_ok-kids.ensures in
    let sizes : c.as_slice-3.result.now ≡ map written_size (written_bodies t) =
    sizes-are t c.in_ok-written.written.items c.as_slice.result.now c.in_ok-sizes.sizes c.as_slice-3.result.now c.in_ok-written.ensures c.as_slice.ensures.value c.in_ok-sizes.ensures c.as_slice-3.ensures in
    let names : map definition_names (map body_of_written c.as_slice-5.result.now) ≡ map definition_names (written_bodies t) =
    ap (λ (ws : List Written). map definition_names (map body_of_written ws)) c.as_slice-5.ensures.value ∙ ap (map definition_names) c.in_ok-written.ensures in
    let children : c.in_ok-children.children ≡ filter_map stands_of c.in_ok-all.all = c.in_ok-children.ensures ∙ ap (filter_map stands_of) c.as_slice-4.ensures in
    let few = few-listed t c.args.scopes.now c.requires c.as_slice-2.result.now c.as_slice-3.result.now kids sizes c.in_ok-all.all c.in_ok-all.ensures.all c.in_ok-all.ensures.few in
    let rows = all-components t c.args.scopes.now c.requires c.as_slice-2.result.now c.as_slice-3.result.now kids sizes c.in_ok-all.all c.in_ok-all.ensures.all in
    numbered t c.args.scopes.now c.requires c.as_slice-2.result.now c.as_slice-3.result.now kids sizes c.in_ok-all.all c.in_ok-all.ensures.all c.in_ok-all.ensures.few _ refl children
    (found-outers t c.args.scopes.now c.requires few c.in_ok-all.all rows (map definition_names (map body_of_written c.as_slice-5.result.now)) c.as_slice-6.result.now c.in_ok-children.children c.in_ok-outers.outers c.in_ok-outers.ensures names c.as_slice-6.ensures children)

pub returns-clause-few : goal.returns-clause-few
returns-clause-few c =
    let t : Source = source_of c.args.spec.now in
    let kids : c.as_slice-2.result.now ≡ all_kids c.args.scopes.now = c.as_slice-2.ensures ∙ c.in_ok-kids.ensures in
    let sizes : c.as_slice-3.result.now ≡ map written_size (written_bodies t) =
    sizes-are t c.in_ok-written.written.items c.as_slice.result.now c.in_ok-sizes.sizes c.as_slice-3.result.now c.in_ok-written.ensures c.as_slice.ensures.value c.in_ok-sizes.ensures c.as_slice-3.ensures in
    not-too-many t c.args.scopes.now c.requires c.as_slice-2.result.now c.as_slice-3.result.now kids sizes c.in_ok-all.all c.in_ok-all.ensures.all c.in_ok-all.ensures.few

pub returns-in_err-all-clause-refused : goal.returns-in_err-all-clause-refused
returns-in_err-all-clause-refused c =
    let t : Source = source_of c.args.spec.now in
    let kids : c.as_slice-2.result.now ≡ all_kids c.args.scopes.now = c.as_slice-2.ensures ∙ c.in_ok-kids.ensures in
    let sizes : c.as_slice-3.result.now ≡ map written_size (written_bodies t) =
    sizes-are t c.in_ok-written.written.items c.as_slice.result.now c.in_ok-sizes.sizes c.as_slice-3.result.now c.in_ok-written.ensures c.as_slice.ensures.value c.in_ok-sizes.ensures c.as_slice-3.ensures in
    let told = err_from_is_err_and c.from_residual-in_err-all.result c.from_residual-in_err-all.ensures.1 in
    rw (told.1, told.2)
    (refused t c.in_err-all.field-0.0 (λ count h.
    let many = c.in_err-all.ensures.too_many count (ap Err h) in
    too-many t c.args.scopes.now c.requires c.as_slice-2.result.now c.as_slice-3.result.now kids sizes count many.0 many.1))
