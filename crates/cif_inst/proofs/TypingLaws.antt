-- Declarations stand in components whose bodies have numbers.
use Rattle.std.proofs.Common.{◌≡◌, ℕ, ◌<◌, List, [], ◌∷◌, ◌++◌, ◌+◌, length, map, drop, get_or, sym, subst}
use Rattle.cif_system.specs.Words.{Member}
use Rattle.cif_source.specs.Components.{as_written}
use Rattle.cif_source.specs.Objects.{components_of}
use Rattle.cif_scope.specs.Tables.{IsBody}
use Rattle.cif_inst.specs.Declarations.{DatumTree, rows_data}
use Rattle.cif_inst_paths.specs.Rows.{rows_of, body_number}
use Rattle.cif_inst.specs.Typing.{typed_source, typed_component, body_in, AreTypesOf, IsHome, HasType}
use Rattle.cif_inst.specs.Views.{datum_tree}
use Rattle.cif_inst.specs.declared.declarations.Datum.{Datum}
use Rattle.cif_inst.specs.declared.declarations.Sort.{Sort}
use Rattle.cif_inst.specs.declared.typing.Typing.{Typing}
use Rattle.cif_inst_paths.proofs.LoopLaws.{listed_at, made_more}
use Rattle.cif_inst_paths.proofs.SoundLaws.{component-is, component-listed, body-numbered}
use Rattle.cif_inst.proofs.DeclarationLaws.{data-member, datum-below, datum-typed}

-- ---- one of those that are found

pub datum_listed : (found : List Datum) (i : ℕ) (d : Datum) → i < length found → d ≡ get_or found i d → Member (datum_tree d) (map datum_tree found)
datum_listed found i d below is = listed_at datum_tree found i d below is

pub kept_more : {B : Type 0} (make : DatumTree → B) (found : List Datum) (i : ℕ) (d : Datum) (before after all : List B) → i < length found → d ≡ get_or found i d → after ≡ before ++ make (datum_tree d) ∷ []
    → before ++ map make (map datum_tree (drop i found)) ≡ all → after ++ map make (map datum_tree (drop (i + 1) found)) ≡ all
kept_more make found i d before after all below is added h = made_more datum_tree found i d below is make before after all added h

-- ---- its component

-- a component is listed, and written as its body
pub home_listed : (y : Typing) (k : ℕ) → IsHome y k → Member (typed_component y k) (components_of (typed_source y))
home_listed y k h = component-listed (typed_source y) k h.below

pub home_body : (y : Typing) (k body : ℕ) → IsHome y k → body ≡ body_number y.looking.now.components.now.all k → IsBody (typed_source y) body (as_written (typed_component y k))
home_body y k body h is =
    subst (λ j. IsBody (typed_source y) j (as_written (typed_component y k))) (sym is)
    (body-numbered (typed_source y) y.looking.now.components.now.all h.types.names.components.all k (typed_component y k) (component-is (typed_source y) k h.below))

pub its_home : (y : Typing) (d : DatumTree) → HasType y d → Member (typed_component y d.component) (components_of (typed_source y))
its_home y d h = home_listed y d.component h.home

pub its_body : (y : Typing) (d : DatumTree) (body : ℕ) → HasType y d → body ≡ body_in y d → IsBody (typed_source y) body (as_written (typed_component y d.component))
its_body y d body h is = home_body y d.component body h.home is

-- what is found is of a type that its component writes
pub has_type : (y : Typing) (s : Sort) → AreTypesOf y → (d : DatumTree) → Member d (rows_data s 0 (rows_of (typed_source y))) → HasType y d
has_type y s types d m =
    let place = data-member (typed_source y) s d m in
    record { home = record { types = types; below = datum-below (typed_source y) s d place }; written = datum-typed (typed_source y) s d place }
