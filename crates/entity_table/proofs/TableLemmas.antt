-- The table as a finite map: what an alive entity's index holds, and what a change of one index does to all entities.
use Rattle.std.proofs.Common.{◌≡◌, ◌≢◌, ℕ, ◌<◌, inl, inr, length, Option, Some, None, IsSome, get_or, ◌==◌, refl, sym, ap, ap₂, ◌∙◌, subst}
use Rattle.std.proofs.lemmas.Bool.{cases_eq, cases_lt, cond-true, cond-false, eq-eqb, ne_eqb, false≢true}
use Rattle.std.proofs.lemmas.List.{get_or_past}
use Rattle.ent_types.specs.declared.entity.Entity.{Entity}
use Rattle.entity_table.specs.declared.table.Place.{Place}
use Rattle.entity_table.specs.Table.{Holder, Table, place_at, IsAlive, Rebinds}

-- an entity is its index and its version
pub same_entity_from : (d e : Entity) → d.index ≡ e.index → d.version ≡ e.version → d ≡ e
same_entity_from d e i v = ap₂ (λ (x y : ℕ). let made : Entity = record { index = x; version = y } in made) i v

none_is_not_some : IsSome {T = Place} None → ⊥
none_is_not_some s = false≢true s

-- a holder with another version gives no place
pub place_at-other : (version : ℕ) (holder : Holder) → holder.version ≢ version → place_at version (Some holder) ≡ None
place_at-other version holder other = cond-false (holder.version == version) _ _ (ne_eqb holder.version version other)

pub place_at-same : (version : ℕ) (place : Place) → place_at version (Some (record { version = version; place = place })) ≡ Some place
place_at-same version place = cond-true (version == version) _ _ (eq-eqb version version refl)

-- an alive entity's index holds its version
pub alive_at : (version : ℕ) (held : Option Holder) → IsSome (place_at version held) → (place : Place) × (held ≡ Some (record { version = version; place = place }))
alive_at version None alive = absurd (none_is_not_some alive)
alive_at version (Some holder) alive =
    elim (cases_eq holder.version version) [
      | inl same ↦ (holder.place, ap (λ v. Some (let h : Holder = record { version = v; place = holder.place } in h)) same)
      | inr other ↦ absurd (none_is_not_some (subst (λ o. IsSome o) (place_at-other version holder other) alive))
    ]

-- where one index holds something else, and no other version than the entity's was or is there, only it is rebound
pub rebinds : (old new : Table) (e : Entity) (place : Option Place)
    → ((j : ℕ) → j ≢ e.index → get_or new.holders j None ≡ get_or old.holders j None)
    → ((version : ℕ) → version ≢ e.version → place_at version (get_or old.holders e.index None) ≡ None)
    → ((version : ℕ) → version ≢ e.version → place_at version (get_or new.holders e.index None) ≡ None)
    → place_at e.version (get_or new.holders e.index None) ≡ place
    → Rebinds old new e place
rebinds old new e place apart was is here = record {
  there = here;
  others = λ d other. elim (cases_eq d.index e.index) [
    | inl index ↦ elim (cases_eq d.version e.version) [
      | inl version ↦ absurd (other (same_entity_from d e index version))
      | inr version ↦ rw index (is d.version version ∙ sym (was d.version version))
    ]
    | inr index ↦ ap (place_at d.version) (apart d.index index)
  ];
}

-- the version of an alive entity is the only one at its index
pub only_version : (table : Table) (e : Entity) → IsAlive table e → (version : ℕ) → version ≢ e.version → place_at version (get_or table.holders e.index None) ≡ None
only_version table e alive version other =
    let held = alive_at e.version (get_or table.holders e.index None) alive in
    rw held.1 (place_at-other version _ (λ same. other (sym same)))

pub alive_below : (table : Table) (e : Entity) → IsAlive table e → e.index < length table.holders
alive_below table e alive =
    elim (cases_lt e.index (length table.holders)) [
      | inl below ↦ below
      | inr past ↦ absurd (none_is_not_some (subst (λ held. IsSome (place_at e.version held)) (get_or_past table.holders e.index None past) alive))
    ]
