-- How many there are and how many nodes they have, where counts stop one past the limit.
use Rattle.std.specs.Prelude.{ℕ, ◌+◌, ◌*◌}
use Rattle.cif_net_model.specs.Counts.{stopped, most_nodes}
use Rattle.cif_alg.specs.declared.weighed.Weighed.{Weighed}

abbrev pub cut : ℕ → ℕ
cut x = stopped most_nodes x

abbrev pub nothing : Weighed
nothing = record { count = 0; nodes = 0 }

-- so many, with so many nodes together
abbrev pub weighed : ℕ → ℕ → Weighed
weighed count nodes = record { count = cut count; nodes = cut nodes }

abbrev pub with_one : (nodes : ℕ) → Weighed → Weighed
with_one nodes a = record { count = cut (a.count + 1); nodes = cut (a.nodes + nodes) }

-- each with each
abbrev pub paired : Weighed → Weighed → Weighed
paired a b = record { count = cut (a.count * b.count); nodes = cut (cut (a.nodes * b.count) + cut (a.count * b.nodes)) }

-- the nodes of all, with so many more for each
abbrev pub all_nodes : (each : ℕ) → Weighed → ℕ
all_nodes each a = cut (cut (a.count * each) + a.nodes)
