-- Each alive entity of a scene gets an id of its own, in order of indexes, and every other one becomes null.
use Rattle.std.proofs.Common.{◌≡◌, ℕ, ◌+◌, ◌≤◌, inl, inr, Bool, true, false, cond, List, [], ◌∷◌, map, length, find, Some, None, option_map, refl, sym, ap, ap₂, ◌∙◌, subst, arith}
use Rattle.std.specs.Prelude.{unwrap_or}
use Rattle.ent_types.specs.declared.entity.Entity.{Entity}
use Rattle.ent_types.specs.Fitting.{null_entity}
use Rattle.world_model.specs.Members.{In, one_if, tally}
use Rattle.world_model.specs.Part.{same_entity}
use Rattle.world_model.specs.World.{World}
use Rattle.world_model.specs.Found.{Found, placed, is_of, found, found_by_index, entities_by_index, alive_count}
use Rattle.world_model.specs.Ids.{next_ids}
use Rattle.world_model.specs.Scenes.{Renaming, renamings, renamed, arrivals}
use Rattle.world_model.specs.Lawful.{IsLawful}
use Rattle.world_laws.proofs.Perms.{Perm, perm_back, perm_in, perm_tally, perm_length}
use Rattle.world_laws.proofs.Members.{map_in, length_map, member_counts}
use Rattle.world_laws.proofs.Same.{entity_self}
use Rattle.world_laws.proofs.Sound.{one_at_most}
use Rattle.world_laws.proofs.ByIndex.{found_by_index_perm}
use Rattle.world_laws.proofs.Taking.{length_ids}

-- each entity is in a list once at most
abbrev pub AreOnce : List Entity → Type 0
AreOnce es = (e : Entity) → tally (same_entity e) es ≤ 1

once_less : (e : Entity) (es : List Entity) → AreOnce (e ∷ es) → AreOnce es
once_less e es once d = let o = once d in omega arith

-- in a list of distinct entities the first differs from each later one
pub apart : (d e : Entity) (es : List Entity) → AreOnce (e ∷ es) → In d es → same_entity d e ≡ false
apart d e es once i = step (same_entity d e) refl (once d)
  where
    step : (b : Bool) → same_entity d e ≡ b → one_if b + tally (same_entity d) es ≤ 1 → b ≡ false
    step true is o = let c = member_counts (same_entity d) d es i (entity_self d) in absurd (omega arith)
    step false is o = refl

-- ---- each entity becomes the one at its place

pub renamed_behind : (d e to : Entity) (rs : List Renaming) → same_entity d e ≡ false → renamed ((record { from = e; to = to }) ∷ rs) d ≡ renamed rs d
renamed_behind d e to rs other = ap (λ b. unwrap_or (option_map (λ (r : Renaming). r.to) (cond b (Some (record { from = e; to = to })) (find (λ (r : Renaming). same_entity d r.from) rs))) null_entity) other

pub renamed_here : (e to : Entity) (rs : List Renaming) → renamed ((record { from = e; to = to }) ∷ rs) e ≡ to
renamed_here e to rs = ap (λ b. unwrap_or (option_map (λ (r : Renaming). r.to) (cond b (Some (record { from = e; to = to })) (find (λ (r : Renaming). same_entity e r.from) rs))) null_entity) (entity_self e)

map_same : {X Y : Type 0} (f g : X → Y) (xs : List X) → ((x : X) → In x xs → f x ≡ g x) → map f xs ≡ map g xs
map_same f g [] same = refl
map_same f g (x ∷ xs) same = ap₂ (λ y ys. y ∷ ys) (same x (inl refl)) (map_same f g xs (λ z i. same z (inr i)))

pub map_renamed : (es ds : List Entity) → length es ≡ length ds → AreOnce es → map (renamed (renamings es ds)) es ≡ ds
map_renamed [] [] long once = refl
map_renamed [] (d ∷ ds) long once = absurd (omega arith)
map_renamed (e ∷ es) [] long once = absurd (omega arith)
map_renamed (e ∷ es) (d ∷ ds) long once =
    ap₂ (λ x xs. x ∷ xs) (renamed_here e d (renamings es ds))
    (map_same (renamed (renamings (e ∷ es) (d ∷ ds))) (renamed (renamings es ds)) es (λ x i. renamed_behind x e d (renamings es ds) (apart x e es once i))
    ∙ map_renamed es ds (omega arith) (once_less e es once))

-- one that isn't renamed becomes null
pub renamed_null : (e : Entity) (es ds : List Entity) → tally (same_entity e) es ≡ 0 → renamed (renamings es ds) e ≡ null_entity
renamed_null e [] ds none = refl
renamed_null e (d ∷ es) [] none = refl
renamed_null e (d ∷ es) (to ∷ ds) none = step (same_entity e d) refl none (renamed_null e es ds)
  where
    step : (b : Bool) → same_entity e d ≡ b → one_if b + tally (same_entity e) es ≡ 0 → (tally (same_entity e) es ≡ 0 → renamed (renamings es ds) e ≡ null_entity)
        → renamed (renamings (d ∷ es) (to ∷ ds)) e ≡ null_entity
    step true is none rest = absurd (omega arith)
    step false is none rest = renamed_behind e d to (renamings es ds) is ∙ rest (omega arith)

-- ---- the entities of a scene

abbrev pub entity_of : Found → Entity
entity_of x = x.row.entity

pub tally_entities : (e : Entity) (xs : List Found) → tally (same_entity e) (map entity_of xs) ≡ tally (is_of e) xs
tally_entities e [] = refl
tally_entities e (x ∷ xs) = ap (λ n. one_if (is_of e x) + n) (tally_entities e xs)

pub none_counts : {X : Type 0} (p : X → Bool) (xs : List X) → find p xs ≡ None → tally p xs ≡ 0
none_counts p [] is = refl
none_counts {X} p (x ∷ xs) is = step (p x) is (none_counts p xs)
  where
    step : (b : Bool) → cond b (Some x) (find p xs) ≡ None → (find p xs ≡ None → tally p xs ≡ 0) → one_if b + tally p xs ≡ 0
    step true is rest = absurd (cc)
    step false is rest = let r = rest is in omega arith

module _ (capacity : List ℕ → ℕ) (scene : World) (l : IsLawful capacity scene) where
  scene_perm : Perm Found (found_by_index scene) (placed scene.blocks)
  scene_perm = found_by_index_perm capacity scene l

  pub scene_once : AreOnce (entities_by_index scene)
  scene_once e =
      subst (λ n. n ≤ 1) (sym (tally_entities e (found_by_index scene) ∙ perm_tally (is_of e) scene_perm)) (one_at_most scene l.sound e)

  pub scene_long : length (entities_by_index scene) ≡ alive_count scene
  scene_long = length_map entity_of (found_by_index scene) ∙ perm_length scene_perm

  module _ (w : World) where
    abbrev ids : List Entity
    ids = next_ids (alive_count scene) w.free w.made w.first_entity_version

    -- in order of indexes the entities get the next ids
    pub arrivals_in_order : map (renamed (arrivals w scene)) (entities_by_index scene) ≡ ids
    arrivals_in_order =
        map_renamed (entities_by_index scene) ids (scene_long ∙ sym (length_ids (alive_count scene) w.free w.made w.first_entity_version)) scene_once

    -- an alive entity gets one of them
    pub arrival_is_id : (x : Found) → In x (placed scene.blocks) → In (renamed (arrivals w scene) x.row.entity) ids
    arrival_is_id x i =
        subst (In (renamed (arrivals w scene) x.row.entity)) arrivals_in_order
        (map_in (renamed (arrivals w scene)) x.row.entity (entities_by_index scene) (map_in entity_of x (found_by_index scene) (perm_in x (perm_back scene_perm) i)))

    -- and every other one is null
    pub others_are_null : (e : Entity) → found e scene.blocks ≡ None → renamed (arrivals w scene) e ≡ null_entity
    others_are_null e dead =
        renamed_null e (entities_by_index scene) ids
        (tally_entities e (found_by_index scene) ∙ (perm_tally (is_of e) scene_perm ∙ none_counts (is_of e) (placed scene.blocks) dead))
