-- Tables: the places of all entities and their count after a change of one.
use Rattle.std.proofs.Common.{◌≡◌, ℕ, ◌+◌, ◌<◌, ◌≤◌, ◌⊎◌, inl, inr, Bool, true, false, cond, nat_lt, List, [], ◌∷◌, ◌++◌, length, get_or, set, Option, Some, None, is_some, count_by, refl, sym, ap, ◌∙◌, subst, arith}
use Rattle.std.proofs.lemmas.Bool.{eq-eqb, lt-ltb, le-ltb, ltb-true, cases_eq}
use Rattle.std.proofs.lemmas.List.{length-set, length-append}
use Rattle.std.proofs.lemmas.List.Sums.{sum_by_push}
use Rattle.std.proofs.lemmas.Option.{none-some, same_Some}
use Rattle.ent_types.specs.declared.entity.Entity.{Entity}
use Rattle.entity_table.specs.declared.table.Place.{Place}
use Rattle.entity_table.specs.Table.{Table, Holder, place_at, place_of, IsAlive, alive_count, made, put_holder, given_by, with_made, without, with_place, Rebinds}
use Rattle.entity_table.proofs.TableLemmas.{place_at-other, place_at-same, alive_at, alive_below}
use Rattle.entity_table.proofs.SlotLemmas.{counts, count_set}
use Rattle.entity_table.proofs.AliveSlot.{rebinds_set}
use Rattle.world_model.specs.Members.{In, one_if, tally}
use Rattle.world_model.specs.Part.{same_entity}
use Rattle.world_model.specs.World.{World}
use Rattle.world_model.specs.Found.{placed, has_index}
use Rattle.world_model.specs.Ids.{take_id, give_id}
use Rattle.world_model.specs.Lawful.{IsSound, is_free_at}
use Rattle.world_laws.proofs.Same.{entity_is, entity_self}
use Rattle.world_laws.proofs.Members.{member_counts}
use Rattle.world_places.specs.Placing.{with_mover}

-- ---- cases

pub entity_cases : (d e : Entity) → (d ≡ e) ⊎ (d ≡ e → ⊥)
entity_cases d e = by (same_entity d e) refl
  where
    by : (b : Bool) → same_entity d e ≡ b → (d ≡ e) ⊎ (d ≡ e → ⊥)
    by true is = inl (entity_is d e is)
    by false is = inr (λ same. let no_way : true ≡ false = sym (entity_self d) ∙ (ap (same_entity d) same ∙ is) in absurd (cc))

pub mover_cases : (m : Option Entity) (d : Entity) → (m ≡ Some d) ⊎ (m ≡ Some d → ⊥)
mover_cases None d = inr (λ is. none-some d is)
mover_cases (Some c) d = by (entity_cases c d)
  where
    by : (c ≡ d) ⊎ (c ≡ d → ⊥) → (Some c ≡ Some d) ⊎ (Some c ≡ Some d → ⊥)
    by (inl same) = inl (ap Some same)
    by (inr apart) = inr (λ is. apart (same_Some c d is))

pub alive_at_place : (table : Table) (e : Entity) (p : Place) → place_of table e ≡ Some p → IsAlive table e
alive_at_place table e p at = ap is_some at

-- ---- an alive entity gets another place, or ends

module _ (table : Table) (e : Entity) (alive : IsAlive table e) where
  was_counted : counts (get_or table.holders e.index None) ≡ 1
  was_counted = ap counts (alive_at e.version (get_or table.holders e.index None) alive).1

  pub place_rebinds : (q : Place) → Rebinds table (with_place table e q) e (Some q)
  place_rebinds q =
      rebinds_set table (with_place table e q) e (Some (record { version = e.version; place = q })) (Some q) alive refl
      (λ v other. place_at-other v (record { version = e.version; place = q }) (λ same. other (sym same))) (place_at-same e.version q)

  pub without_rebinds : Rebinds table (without table e) e None
  without_rebinds = rebinds_set table (without table e) e None None alive refl (λ v other. refl) refl

  pub place_count : (q : Place) → alive_count (with_place table e q) ≡ alive_count table
  place_count q =
      let count = count_set table.holders e.index (Some (record { version = e.version; place = q })) (alive_below table e alive) in
      let was = was_counted in
      omega arith

  pub without_count : alive_count (without table e) + 1 ≡ alive_count table
  without_count =
      let count = count_set table.holders e.index None (alive_below table e alive) in
      let was = was_counted in
      omega arith

-- the table after a row has taken another place
pub record Moves (old new : Table) (m : Option Entity) (p : Place) : Type 0 where
  pub there : (d : Entity) → m ≡ Some d → place_of new d ≡ Some p
  pub others : (d : Entity) → (m ≡ Some d → ⊥) → place_of new d ≡ place_of old d
  pub count : alive_count new ≡ alive_count old

pub mover_moves : (table : Table) (m : Option Entity) (p : Place) → ((d : Entity) → m ≡ Some d → IsAlive table d) → Moves table (with_mover m p table) m p
mover_moves table None p alive = record { there = λ d is. absurd (none-some d is); others = λ d apart. refl; count = refl }
mover_moves table (Some c) p alive = record {
  there = λ d is. subst (λ a. place_of (with_place table c p) a ≡ Some p) (same_Some c d is) (place_rebinds table c (alive c refl) p).there;
  others = λ d apart. (place_rebinds table c (alive c refl) p).others d (λ same. apart (ap Some (sym same)));
  count = place_count table c (alive c refl) p;
}

-- ---- what else a table has

pub left_free : (table : Table) (m : Option Entity) (p : Place) (e : Entity) → (without (with_mover m p table) e).free ≡ give_id e table.free
left_free table None p e = refl
left_free table (Some d) p e = refl

pub left_made : (table : Table) (m : Option Entity) (p : Place) (e : Entity) → made (without (with_mover m p table) e) ≡ made table
left_made table None p e = length-set table.holders e.index None
left_made table (Some d) p e =
    length-set (set table.holders d.index (Some (record { version = d.version; place = p }))) e.index None
    ∙ length-set table.holders d.index (Some (record { version = d.version; place = p }))

pub left_first : (table : Table) (m : Option Entity) (p : Place) (e : Entity) → (without (with_mover m p table) e).first_version ≡ table.first_version
left_first table None p e = refl
left_first table (Some d) p e = refl

pub moved_free : (table : Table) (m : Option Entity) (p q : Place) (e : Entity) → (with_place (with_mover m p table) e q).free ≡ table.free
moved_free table None p q e = refl
moved_free table (Some d) p q e = refl

pub moved_made : (table : Table) (m : Option Entity) (p q : Place) (e : Entity) → made (with_place (with_mover m p table) e q) ≡ made table
moved_made table None p q e = length-set table.holders e.index (Some (record { version = e.version; place = q }))
moved_made table (Some d) p q e =
    length-set (set table.holders d.index (Some (record { version = d.version; place = p }))) e.index (Some (record { version = e.version; place = q }))
    ∙ length-set table.holders d.index (Some (record { version = d.version; place = p }))

pub moved_first : (table : Table) (m : Option Entity) (p q : Place) (e : Entity) → (with_place (with_mover m p table) e q).first_version ≡ table.first_version
moved_first table None p q e = refl
moved_first table (Some d) p q e = refl

-- ---- a new entity

-- no entity was at the index of a new one
vacant : (old new : Table) (e : Entity) (place : Place) → place_of old e ≡ None → Rebinds old new e (Some place) → get_or old.holders e.index None ≡ None
vacant old new e place none rebinds = by (get_or old.holders e.index None) refl
  where
    by : (held : Option Holder) → get_or old.holders e.index None ≡ held → held ≡ None
    by None is = refl
    by (Some h) is = of (cases_eq h.version e.version)
      where
        d : Entity
        d = record { index = e.index; version = h.version }

        was : place_of old d ≡ Some h.place
        was = ap (place_at h.version) is ∙ place_at-same h.version h.place

        of : (h.version ≡ e.version) ⊎ (h.version ≡ e.version → ⊥) → Some h ≡ None
        of (inl same) = absurd (none-some h.place (sym none ∙ subst (λ v. place_at v (get_or old.holders e.index None) ≡ Some h.place) same was))
        of (inr apart) =
            let stays : place_of new d ≡ Some h.place = rebinds.others d (λ same. apart (ap (λ (a : Entity). a.version) same)) ∙ was in
            let first = (alive_at h.version (get_or new.holders e.index None) (ap is_some stays)).1 in
            let second = (alive_at e.version (get_or new.holders e.index None) (ap is_some rebinds.there)).1 in
            absurd (apart (ap (λ (a : Holder). a.version) (same_Some _ _ (sym first ∙ second))))

put_count : (holders : List (Option Holder)) (index : ℕ) (holder : Holder) → get_or holders index None ≡ None
    → count_by is_some (put_holder holders index (Some holder)) ≡ count_by is_some holders + 1
put_count holders index holder empty = by (nat_lt index (length holders)) refl
  where
    by : (b : Bool) → nat_lt index (length holders) ≡ b → count_by is_some (cond b (set holders index (Some holder)) (holders ++ Some holder ∷ [])) ≡ count_by is_some holders + 1
    by true is =
        let count = count_set holders index (Some holder) (ltb-true index (length holders) is) in
        let was : counts (get_or holders index None) ≡ 0 = ap counts empty in
        omega arith
    by false is = sum_by_push (λ (held : Option Holder). cond (is_some held) 1 0) holders (Some holder)

pub made_count : (table : Table) (place : Place) → place_of table (given_by table).entity ≡ None → Rebinds table (with_made table place) (given_by table).entity (Some place)
    → alive_count (with_made table place) ≡ alive_count table + 1
made_count table place none rebinds =
    put_count table.holders (given_by table).entity.index (record { version = (given_by table).entity.version; place = place })
    (vacant table (with_made table place) (given_by table).entity place none rebinds)

pub made_free : (table : Table) (place : Place) → (with_made table place).free ≡ (given_by table).free
made_free table place = refl

put_length : (holders : List (Option Holder)) (holder : Option Holder) (free : List Entity) (first : ℕ) → ((d : Entity) → In d free → d.index < length holders)
    → length (put_holder holders (take_id free (length holders) first).entity.index holder) ≡ (take_id free (length holders) first).made
put_length holders holder [] first below =
    ap (λ b. length (cond b (set holders (length holders) holder) (holders ++ holder ∷ []))) (le-ltb (length holders) (length holders) (omega arith))
    ∙ length-append holders (holder ∷ [])
put_length holders holder (e ∷ es) first below =
    ap (λ b. length (cond b (set holders e.index holder) (holders ++ holder ∷ []))) (lt-ltb e.index (length holders) (below e (inl refl)))
    ∙ length-set holders e.index holder

pub made_made : (table : Table) (place : Place) → ((d : Entity) → In d table.free → d.index < made table) → made (with_made table place) ≡ (given_by table).made
made_made table place below =
    put_length table.holders (Some (record { version = (given_by table).entity.version; place = place })) table.free table.first_version below

-- in a sound world the free indexes were made
pub free_below : (w : World) → IsSound w → (d : Entity) → In d w.free → d.index < w.made
free_below w sound d i =
    by (nat_lt d.index w.made) refl (sound d.index) (member_counts (is_free_at d.index) d w.free i (eq-eqb d.index d.index refl))
  where
    by : (b : Bool) → nat_lt d.index w.made ≡ b → tally (has_index d.index) (placed w.blocks) + tally (is_free_at d.index) w.free ≤ one_if b
        → 1 ≤ tally (is_free_at d.index) w.free → d.index < w.made
    by true is sound some = ltb-true d.index w.made is
    by false is sound some = absurd (omega arith)
