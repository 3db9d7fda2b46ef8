-- The keys that place a child among its siblings, and the table of a group: `name`, `parent`, `before`, `after`,
-- `first`, `last`.
use Rattle.std.specs.Prelude.{ℕ, Bool, false, ◌&&◌, List, [], ◌∷◌, codes, Ok}
use Rattle.toml.specs.Data.{Data, Members}
use Rattle.scenario_record.specs.declared.fault.Cause.TheVariants.{BadShape}
use Rattle.scenario_tables.specs.declared.groups.Placement.{Placement}
use Rattle.scenario_record.specs.declared.record.GroupEntry.{GroupEntry}
use Rattle.scenario_record.specs.Readings.{Reading, ◌>>=◌, unless, fault_if}
use Rattle.scenario_tables.specs.ReadKeys.{known_table, required, optional, truth, name, names}

abbrev pub placement : Members → Reading Placement
placement ms =
    optional (codes "before") [] names ms >>= λ b.
    optional (codes "after") [] names ms >>= λ a.
    optional (codes "first") false truth ms >>= λ f.
    optional (codes "last") false truth ms >>= λ l.
    Ok (record { before = b; after = a; first = f; last = l })

-- a child can't be both first and last
abbrev pub in_two_bands : Placement → Bool
in_two_bands p = p.first && p.last

-- the group that a child is of where it names none
abbrev pub default_group : List ℕ
default_group = codes "Simulation"

-- the group that a key names
abbrev pub group_named : List ℕ → Members → Reading (List ℕ)
group_named key ms = optional key default_group name ms

-- the group with this name and parent
abbrev pub group_with : List ℕ → List ℕ → Placement → Reading GroupEntry
group_with name parent p =
    unless (fault_if (in_two_bands p) BadShape)
    (Ok (record { name = name; parent = parent; before = p.before; after = p.after; first = p.first; last = p.last }))

abbrev pub group_keys : Members → Reading GroupEntry
group_keys ms =
    required (codes "name") name ms >>= λ n.
    group_named (codes "parent") ms >>= λ parent.
    placement ms >>= λ p.
    group_with n parent p

unfoldable pub group : Data → Reading GroupEntry
group d =
    known_table (codes "name" ∷ codes "parent" ∷ codes "before" ∷ codes "after" ∷ codes "first" ∷ codes "last" ∷ []) d >>= λ ms.
    group_keys ms
