-- Types that are left, where they are looked for one after another.
use Rattle.std.proofs.Common.{ℕ, ◌≡◌, ◌<◌, ◌≤◌, ◌+◌, List, [], ◌∷◌, Bool, true, false, ◌||◌, length, drop, refl, ap, ◌∙◌}
use Rattle.std.proofs.lemmas.List.{drop_more, drop_all}
use Rattle.std.specs.Prelude.{◌==◌}
use Rattle.ent_types.specs.TypeSets.{has_type}
use Rattle.ent_types.specs.Registries.{plain_tag}
use Rattle.ent_types.specs.declared.entity.TypeId.{TypeId}
use Rattle.ent_types.specs.declared.type_info.TypeInfo.{TypeInfo}
use Rattle.expr_grammar.specs.Machine.{ids}
use Rattle.expr_read.specs.ScopeOf.{some_type_from, is_listed}

pub listed : (used : List ℕ) (ty : TypeId) → has_type used ty.0 ≡ is_listed (ids used) ty
listed [] ty = refl
listed (x ∷ xs) ty = ap (λ b. (x == ty.0) || b) (listed xs ty)

module _ (passes : TypeId → Bool) (types : List TypeInfo) where
  -- some type passes where one from this place on does
  abbrev pub LeftFrom : ℕ → Type 0
  LeftFrom k = some_type_from passes 0 types ≡ some_type_from passes k (drop k types)

  at_place : (k : ℕ) → k < length types → some_type_from passes k (drop k types) ≡ (passes (record { 0 = k }) || some_type_from passes (k + 1) (drop (k + 1) types))
  at_place k within = ap (λ ts. some_type_from passes k ts) (drop_more types k (plain_tag []) within)

  pub found_at : (k : ℕ) → k < length types → passes (record { 0 = k }) ≡ true → LeftFrom k → some_type_from passes 0 types ≡ true
  found_at k within passing h = h ∙ at_place k within ∙ ap (λ b. b || some_type_from passes (k + 1) (drop (k + 1) types)) passing

  pub passed_by : (k : ℕ) → k < length types → passes (record { 0 = k }) ≡ false → LeftFrom k → LeftFrom (k + 1)
  passed_by k within failing h = h ∙ at_place k within ∙ ap (λ b. b || some_type_from passes (k + 1) (drop (k + 1) types)) failing

  pub none_found : (k : ℕ) → length types ≤ k → LeftFrom k → some_type_from passes 0 types ≡ false
  none_found k past h = h ∙ ap (λ ts. some_type_from passes k ts) (drop_all k types past)
