-- References that are renamed twice, from a file to its own world and from there to another, are renamed from the file to the
-- other world.
use Rattle.std.proofs.Common.{◌≡◌, ℕ, zero, suc, ◌+◌, ◌≤◌, ◌⊎◌, inl, inr, nat_eq, Bool, true, false, ◌&&◌, cond, List, [], ◌∷◌, map, length, find, Some, option_map, refl, sym, ap, ap₂, ◌∙◌, subst, arith}
use Rattle.std.specs.Prelude.{unwrap_or}
use Rattle.ent_types.specs.declared.entity.Entity.{Entity}
use Rattle.ent_types.specs.declared.value.Value.{Value}
use Rattle.ent_types.specs.declared.value.Value.TheVariants.{Int, Ref}
use Rattle.ent_types.specs.Fitting.{null_entity}
use Rattle.world_model.specs.Members.{In, one_if, tally, AreDistinct}
use Rattle.world_model.specs.Part.{same_entity}
use Rattle.world_model.specs.Row.{Cell}
use Rattle.world_model.specs.Ids.{next_ids}
use Rattle.world_model.specs.Scenes.{Renaming, renamings, renamed, value_renamed}
use Rattle.world_laws.proofs.Same.{entity_is}
use Rattle.world_laws.proofs.Renaming.{AreOnce, apart, renamed_behind, renamed_here}
use Rattle.world_laws.proofs.NodeRows.{cell_changed}

-- ---- what an entity becomes

renamed_hit : (d e to : Entity) (rs : List Renaming) → same_entity d e ≡ true → renamed ((record { from = e; to = to }) ∷ rs) d ≡ to
renamed_hit d e to rs same = ap (λ b. unwrap_or (option_map (λ (r : Renaming). r.to) (cond b (Some (record { from = e; to = to })) (find (λ (r : Renaming). same_entity d r.from) rs))) null_entity) same

-- it is one of the new entities, or null
renamed_is : (e : Entity) (es ds : List Entity) → In (renamed (renamings es ds) e) ds ⊎ (renamed (renamings es ds) e ≡ null_entity)
renamed_is e [] ds = inr refl
renamed_is e (d ∷ es) [] = inr refl
renamed_is e (d ∷ es) (to ∷ ds) = step (same_entity e d) refl (renamed_is e es ds)
  where
    step : (b : Bool) → same_entity e d ≡ b → In (renamed (renamings es ds) e) ds ⊎ (renamed (renamings es ds) e ≡ null_entity)
        → In (renamed (renamings (d ∷ es) (to ∷ ds)) e) (to ∷ ds) ⊎ (renamed (renamings (d ∷ es) (to ∷ ds)) e ≡ null_entity)
    step true is rest = inl (inl (renamed_hit e d to (renamings es ds) is))
    step false is (inl i) = inl (inr (subst (λ x. In x ds) (sym (renamed_behind e d to (renamings es ds) is)) i))
    step false is (inr none) = inr (renamed_behind e d to (renamings es ds) is ∙ none)

pub renamed_twice : (e : Entity) (es ds cs : List Entity) → length es ≡ length ds → length ds ≡ length cs → AreOnce ds → tally (same_entity null_entity) ds ≡ 0
    → renamed (renamings ds cs) (renamed (renamings es ds) e) ≡ renamed (renamings es cs) e
renamed_twice e [] [] [] long more once none = refl
renamed_twice e [] [] (c ∷ cs) long more once none = absurd (omega arith)
renamed_twice e [] (d ∷ ds) cs long more once none = absurd (omega arith)
renamed_twice e (a ∷ es) [] cs long more once none = absurd (omega arith)
renamed_twice e (a ∷ es) (d ∷ ds) [] long more once none = absurd (omega arith)
renamed_twice e (a ∷ es) (d ∷ ds) (c ∷ cs) long more once none =
    step (same_entity e a) refl (renamed_is e es ds) (renamed_twice e es ds cs (omega arith) (omega arith) (λ x. (let o = once x in omega arith)) (omega arith))
  where
    null_apart : (b : Bool) → one_if b + tally (same_entity null_entity) ds ≡ 0 → b ≡ false
    null_apart true h = absurd (omega arith)
    null_apart false h = refl

    behind : In (renamed (renamings es ds) e) ds ⊎ (renamed (renamings es ds) e ≡ null_entity) → same_entity (renamed (renamings es ds) e) d ≡ false
    behind (inl i) = apart (renamed (renamings es ds) e) d ds once i
    behind (inr is) = ap (λ x. same_entity x d) is ∙ null_apart (same_entity null_entity d) none

    step : (b : Bool) → same_entity e a ≡ b → In (renamed (renamings es ds) e) ds ⊎ (renamed (renamings es ds) e ≡ null_entity)
        → renamed (renamings ds cs) (renamed (renamings es ds) e) ≡ renamed (renamings es cs) e
        → renamed (renamings (d ∷ ds) (c ∷ cs)) (renamed (renamings (a ∷ es) (d ∷ ds)) e) ≡ renamed (renamings (a ∷ es) (c ∷ cs)) e
    step true is among rest =
        ap (renamed (renamings (d ∷ ds) (c ∷ cs))) (renamed_hit e a d (renamings es ds) is)
        ∙ (renamed_here d c (renamings ds cs) ∙ sym (renamed_hit e a c (renamings es cs) is))
    step false is among rest =
        ap (renamed (renamings (d ∷ ds) (c ∷ cs))) (renamed_behind e a d (renamings es ds) is)
        ∙ (renamed_behind (renamed (renamings es ds) e) d c (renamings ds cs) (behind among)
        ∙ (rest ∙ sym (renamed_behind e a c (renamings es cs) is)))

-- null is no fresh entity
pub null_not_fresh : (n made : ℕ) → tally (same_entity null_entity) (next_ids n [] made 1) ≡ 0
null_not_fresh zero made = refl
null_not_fresh (suc n) made = step (nat_eq 0 made) (null_not_fresh n (made + 1))
  where
    step : (b : Bool) → tally (same_entity null_entity) (next_ids n [] (made + 1) 1) ≡ 0 → one_if (b && false) + tally (same_entity null_entity) (next_ids n [] (made + 1) 1) ≡ 0
    step true rest = omega arith
    step false rest = omega arith

-- ---- what values and cells become

module _ (rs qs ps : List Renaming) (same : (e : Entity) → renamed qs (renamed rs e) ≡ renamed ps e) where
  value_twice : (v : Value) → value_renamed qs (value_renamed rs v) ≡ value_renamed ps v
  value_twice (Int z) = refl
  value_twice (Ref e) = ap Ref (same e)

  values_twice : (vs : List Value) → map (value_renamed qs) (map (value_renamed rs) vs) ≡ map (value_renamed ps) vs
  values_twice [] = refl
  values_twice (v ∷ vs) = ap₂ (λ x xs. x ∷ xs) (value_twice v) (values_twice vs)

  pub cells_twice : (cs : List Cell) → map (cell_changed (value_renamed qs)) (map (cell_changed (value_renamed rs)) cs) ≡ map (cell_changed (value_renamed ps)) cs
  cells_twice [] = refl
  cells_twice (c ∷ cs) =
      ap₂ (λ (d : Cell) ds. d ∷ ds) (ap (λ vs. let d : Cell = record c { values = vs } in d) (values_twice c.values)) (cells_twice cs)

-- ---- entities with distinct indexes

none_there : (e : Entity) (es : List Entity) → (In e.index (map (λ (d : Entity). d.index) es) → ⊥) → tally (same_entity e) es ≡ 0
none_there e [] out = refl
none_there e (d ∷ es) out = step (same_entity e d) refl (none_there e es (λ i. out (inr i)))
  where
    step : (b : Bool) → same_entity e d ≡ b → tally (same_entity e) es ≡ 0 → one_if b + tally (same_entity e) es ≡ 0
    step true is rest = absurd (out (inl (ap (λ (x : Entity). x.index) (entity_is e d is))))
    step false is rest = omega arith

pub once_by_index : (es : List Entity) → AreDistinct (map (λ (d : Entity). d.index) es) → AreOnce es
once_by_index [] lone e = omega arith
once_by_index (d ∷ es) lone e = step (same_entity e d) refl (once_by_index es lone.1 e)
  where
    step : (b : Bool) → same_entity e d ≡ b → tally (same_entity e) es ≤ 1 → one_if b + tally (same_entity e) es ≤ 1
    step true is rest =
        let index : e.index ≡ d.index = ap (λ (x : Entity). x.index) (entity_is e d is) in
        let none = none_there e es (λ i. lone.0 (subst (λ n. In n (map (λ (x : Entity). x.index) es)) index i)) in
        omega arith
    step false is rest = omega arith
