-- From one scan to all scans, and from exact scans to the other promises.
use Rattle.std.proofs.Common.{◌≡◌, ℕ, ℤ, List, [], ◌∷◌, length, refl, sym, subst, arith}
use Rattle.std.specs.List.{AllByRecursion}
use Rattle.cif_system.specs.System.{AllFit, State, System, initial}
use Rattle.cif_system.specs.Scan.{ScanIsLegal, ScanRunsFirstSteps, exact_scan}
use Rattle.cif_system.proofs.FirstRunLaws.{exact_scan-runs}
use Rattle.cif_system.proofs.ScanLaws.{exact_scan-legal}
use Rattle.st_ast.specs.Tree.{Program}
use Rattle.st_ast.specs.Values.{Memory}
use Rattle.st_ast.specs.Exec.{Outcome, Ended}
use Rattle.st_ast.specs.Scan.{start_memory, later_memories, scan_of, when_ended}
use Rattle.plc_model.specs.Face.{Face, StateOf, Shows, AreInTypes}
use Rattle.plc_model.specs.Scans.{AreRows, Change, Leads, memories, EndedScans, RunsFirstSteps, ScansLegally, ScansExactly, ShowsOutputs, StaysTyped}

-- ---- one promise from another

leads-wider : (R Q : Change) → ((s : State) (row : List ℤ) (t : State) → R s row t → Q s row t) → (Is : Memory → State → Type 0) (s : State) (rows : List (List ℤ)) (ms : List Memory)
    → Leads R Is s rows ms → Leads Q Is s rows ms
leads-wider R Q wider Is s [] ms l = l
leads-wider R Q wider Is s (row ∷ rows) [] l = l
leads-wider R Q wider Is s (row ∷ rows) (m ∷ ms) l = (l.0, wider s row l.0 l.1, l.2, leads-wider R Q wider Is l.0 rows ms l.3)

module _ (face : Face) (sys : System) (p : Program) where
  pub ended-wider : (R Q : Change) → ((s : State) (row : List ℤ) (t : State) → R s row t → Q s row t) → EndedScans face sys p R → EndedScans face sys p Q
  ended-wider R Q wider scans rows fit = leads-wider R Q wider (StateOf face sys p) (initial sys) rows (memories p rows) (scans rows fit)

  pub exact-legal : (U C : ℕ) → ScansExactly U C face sys p → ScansLegally U C face sys p
  exact-legal U C exact = (
    exact.0,
    ended-wider (λ s row t. t ≡ exact_scan sys s row U C) (λ s row t. ScanIsLegal sys s row t U C)
        (λ s row t is. subst (λ r. ScanIsLegal sys s row r U C) (sym is) (exact_scan-legal sys s row U C)) exact.1,
  )

  pub exact-first : (U C : ℕ) → ScansExactly U C face sys p → RunsFirstSteps face sys p
  exact-first U C exact =
      ended-wider (λ s row t. t ≡ exact_scan sys s row U C) (ScanRunsFirstSteps sys)
      (λ s row t is. subst (λ r. ScanRunsFirstSteps sys s row r) (sym is) (exact_scan-runs sys s row U C)) exact.1

  -- ---- all scans from one

  -- what is known of memories between scans, and of those right after one
  module _ (Stands Shown : Memory → State → Type 0) (U C : ℕ) where
    pub record OneScan (m : Memory) (row : List ℤ) (s : State) : Type 0 where
      pub left : ℕ
      pub after : Memory
      pub ends : scan_of p m row ≡ Ended left after
      pub stands : Stands after (exact_scan sys s row U C)
      pub shown : Shown after (exact_scan sys s row U C)

    pub record Scanning : Type 0 where
      pub one : (m : Memory) (row : List ℤ) (s : State) → AllFit sys.inputs row → Stands m s → OneScan m row s
      pub state : (m : Memory) (s : State) → Stands m s → StateOf face sys p m s
      pub shows : (m : Memory) (s : State) → Stands m s → Shown m s → Shows sys p m s
      pub typed : (m : Memory) (s : State) → Stands m s → AreInTypes p m

    pub record All (rows : List (List ℤ)) (s : State) (ms : List Memory) : Type 0 where
      pub number : length ms ≡ length rows
      pub leads : Leads (λ s row t. t ≡ exact_scan sys s row U C) (StateOf face sys p) s rows ms
      pub shows : AllByRecursion (λ m. (t : State) × StateOf face sys p m t × Shows sys p m t) ms
      pub typed : AllByRecursion (AreInTypes p) ms

    module _ (sc : Scanning) where
      all : (rows : List (List ℤ)) → AreRows sys rows → (m : Memory) (s : State) → Stands m s → All rows s (later_memories p m rows)
      all [] fit m s st = record { number = refl; leads = refl; shows = tt; typed = tt }
      all (row ∷ rows) fit m s st =
          let one = sc.one m row s fit.0 st in
          let next = exact_scan sys s row U C in
          let rest = all rows fit.1 one.after next one.stands in
          let state = sc.state one.after next one.stands in
          subst (λ (o : Outcome). All (row ∷ rows) s (when_ended o (λ after. after ∷ later_memories p after rows))) (sym one.ends) record {
            number = omega (arith, rest.number);
            leads = (next, refl, state, rest.leads);
            shows = ((next, state, sc.shows one.after next one.stands one.shown), rest.shows);
            typed = (sc.typed one.after next one.stands, rest.typed);
          }

      module _ (starts : Stands (start_memory p) (initial sys)) where
        from_start : (rows : List (List ℤ)) → AreRows sys rows → All rows (initial sys) (memories p rows)
        from_start rows fit = all rows fit (start_memory p) (initial sys) starts

        pub all-exact : ScansExactly U C face sys p
        all-exact = ((λ rows fit. (from_start rows fit).number), (λ rows fit. (from_start rows fit).leads))

        pub all-show : ShowsOutputs face sys p
        all-show rows fit = (from_start rows fit).shows

        pub all-typed : StaysTyped sys p
        all-typed rows fit = (sc.typed (start_memory p) (initial sys) starts, (from_start rows fit).typed)
