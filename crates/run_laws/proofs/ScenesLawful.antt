-- Scenes that are requested, arrive or are unloaded keep a world and its loads lawful.
use Rattle.std.proofs.Common.{◌≡◌, ℕ, zero, suc, ◌+◌, ◌<◌, ◌≤◌, ◌⊎◌, inl, inr, nat_eq, nat_le, Bool, true, false, if◌then◌else◌, List, [], ◌∷◌, ◌++◌, fold, length, Option, Some, None, refl, sym, ap, ◌∙◌, subst, arith, pos, slice_get, slice_set}
use Rattle.std.proofs.lemmas.Int.{ints}
use Rattle.std.proofs.lemmas.Bool.{leb-true}
use Rattle.ent_types.specs.declared.entity.Entity.{Entity}
use Rattle.ent_types.specs.declared.kinds.FieldKind.TheVariants.{I64}
use Rattle.ent_types.specs.declared.limits.TheConstants.{MOST_EVENTS}
use Rattle.ent_types.specs.declared.type_info.TypeInfo.{TypeInfo}
use Rattle.ent_types.specs.declared.value.Value.TheVariants.{Int}
use Rattle.ent_types.specs.Fitting.{fits_field}
use Rattle.world_model.specs.Members.{In}
use Rattle.world_model.specs.World.{World}
use Rattle.world_model.specs.Found.{alive_count}
use Rattle.world_model.specs.Ids.{room}
use Rattle.world_model.specs.Lawful.{IsLawful, HasRoomForParts}
use Rattle.world_model.specs.Operations.{On, Destroy}
use Rattle.world_model.specs.Scenes.{built, moved}
use Rattle.world_laws.proofs.Members.{in_append}
use Rattle.world_laws.proofs.Kept.{operate_lawful}
use Rattle.world_laws.proofs.Moved.{moved_lawful}
use Rattle.world_laws.proofs.Built.{built_lawful, built_registry}
use Rattle.run_model.specs.declared.lines.NoteLine.TheVariants.{SceneArrived, SceneFull}
use Rattle.run_model.specs.Loads.{SceneFile, Absent, TooLong, Faulty, Spelled, LoadState, Requested, Arrived, Refused, Unloaded, Load, SceneState, Arrival, arrival_of, arrived, load_arrived, with_load, requested, tagged, destroyed, load_unloaded, load_named, unloaded_there, unloaded_at, unloaded}
use Rattle.run_laws.specs.Lawful.{IsLawfulFile}
use Rattle.world_laws.proofs.Built.{operate_registry}

-- ---- lists of loads

got_in : {X : Type 0} (xs : List X) (k : ℕ) (x : X) → slice_get xs k ≡ Some x → In x xs
got_in [] k x is = absurd (cc)
got_in (y ∷ ys) zero x is = let same : y ≡ x = cc in inl (sym same)
got_in (y ∷ ys) (suc k) x is = inr (got_in ys k x is)

got_below : {X : Type 0} (xs : List X) (k : ℕ) (x : X) → slice_get xs k ≡ Some x → k < length xs
got_below [] k x is = absurd (cc)
got_below (y ∷ ys) zero x is = omega arith
got_below (y ∷ ys) (suc k) x is = let less = got_below ys k x is in omega arith

length_set : {X : Type 0} (xs : List X) (k : ℕ) (x : X) → length (slice_set xs k x) ≡ length xs
length_set [] k x = refl
length_set (y ∷ ys) zero x = refl
length_set (y ∷ ys) (suc k) x = ap suc (length_set ys k x)

in_set : {X : Type 0} (xs : List X) (k : ℕ) (x y : X) → In y (slice_set xs k x) → (y ≡ x) ⊎ In y xs
in_set [] k x y i = absurd i
in_set (z ∷ zs) zero x y (inl e) = inl e
in_set (z ∷ zs) zero x y (inr i) = inr (inr i)
in_set (z ∷ zs) (suc k) x y (inl e) = inr (inl e)
in_set {X} (z ∷ zs) (suc k) x y (inr i) = step (in_set zs k x y i)
  where
    step : (y ≡ x) ⊎ In y zs → (y ≡ x) ⊎ In y (z ∷ zs)
    step (inl e) = inl e
    step (inr j) = inr (inr j)

length_more : {X : Type 0} (xs : List X) (x : X) → length (xs ++ x ∷ []) ≡ suc (length xs)
length_more [] x = refl
length_more (y ∷ ys) x = ap suc (length_more ys x)

-- the number of a load fits the field of the scene tag
number_fits : (n : ℕ) → n ≤ MOST_EVENTS → fits_field I64 (Int (pos n)) ≡ true
number_fits n few = grind (arith, ints)

-- ---- scenes

-- a lawful world with these types, and n loads of lawful files
pub record IsLawfulScenes (capacity : List ℕ → ℕ) (registry : List TypeInfo) (count : ℕ) (st : SceneState) : Type 0 where
  pub world : IsLawful capacity st.world
  pub registry_is : st.world.registry ≡ registry
  pub loads : (load : Load) → In load st.loads → IsLawfulFile registry load.file
  pub count_is : length st.loads ≡ count

record IsLawfulArrival (capacity : List ℕ → ℕ) (registry : List TypeInfo) (a : Arrival) : Type 0 where
  world : IsLawful capacity a.world
  registry_is : a.world.registry ≡ registry

module _ (capacity : List ℕ → ℕ) (fits : HasRoomForParts capacity) (registry : List TypeInfo) where
  moved_registry : (w scene : World) → (moved w scene).registry ≡ w.registry
  unfolding moved
  moved_registry w scene = refl

  arrival_lawful : (frame number : ℕ) (name : List ℕ) (w : World) (file : SceneFile) → fits_field I64 (Int (pos number)) ≡ true → IsLawfulFile registry file
      → IsLawful capacity w → w.registry ≡ registry → IsLawfulArrival capacity registry (arrival_of capacity frame number name w file)
  arrival_lawful frame number name w Absent fit file l same = record { world = l; registry_is = same }
  arrival_lawful frame number name w TooLong fit file l same = record { world = l; registry_is = same }
  arrival_lawful frame number name w (Faulty fault) fit file l same = record { world = l; registry_is = same }
  arrival_lawful frame number name w (Spelled nodes) fit file l same = by (nat_le (alive_count scene) (room w)) refl
    where
      scene : World
      scene = built capacity w.registry nodes number

      own : IsLawfulFile w.registry (Spelled nodes)
      own = subst (λ r. IsLawfulFile r (Spelled nodes)) (sym same) file

      arrives : Arrival
      arrives = record { world = moved w scene; state = Arrived; line = SceneArrived name frame (alive_count scene) }

      refuses : Arrival
      refuses = record { world = w; state = Refused; line = SceneFull name frame }

      by : (b : Bool) → nat_le (alive_count scene) (room w) ≡ b → IsLawfulArrival capacity registry (if b then arrives else refuses)
      by true is = record {
        world = moved_lawful capacity w scene l (built_lawful capacity fits w.registry l.registry number fit nodes own)
            (built_registry capacity fits w.registry l.registry number fit nodes own) (leb-true (alive_count scene) (room w) is);
        registry_is = moved_registry w scene ∙ same;
      }
      by false is = record { world = l; registry_is = same }

  -- a load arrives
  arrived_lawful : (frame count k : ℕ) (st : SceneState) → count ≤ MOST_EVENTS → IsLawfulScenes capacity registry count st → IsLawfulScenes capacity registry count (load_arrived capacity frame st k)
  arrived_lawful frame count k st few h = by (slice_get st.loads k) refl
    where
      by : (o : Option Load) → slice_get st.loads k ≡ o → IsLawfulScenes capacity registry count (arrived capacity frame st k o)
      by None is = h
      by (Some load) is =
          let less = got_below st.loads k load is in
          let count_is = h.count_is in
          let file = h.loads load (got_in st.loads k load is) in
          let a = arrival_lawful frame (k + 1) load.name st.world load.file (number_fits (k + 1) (omega arith)) file h.world h.registry_is in
          record {
            world = a.world;
            registry_is = a.registry_is;
            loads = λ l i. among file l (in_set st.loads k new l i);
            count_is = length_set st.loads k new ∙ h.count_is;
          }
        where
          new : Load
          new = record load { state = (arrival_of capacity frame (k + 1) load.name st.world load.file).state }

          among : IsLawfulFile registry load.file → (l : Load) → (l ≡ new) ⊎ In l st.loads → IsLawfulFile registry l.file
          among file l (inl e) = subst (λ (y : Load). IsLawfulFile registry y.file) (sym e) file
          among file l (inr i) = h.loads l i

  pub all_arrived_lawful : (frame count : ℕ) (ks : List ℕ) (st : SceneState) → count ≤ MOST_EVENTS → IsLawfulScenes capacity registry count st
      → IsLawfulScenes capacity registry count (fold (load_arrived capacity frame) st ks)
  all_arrived_lawful frame count [] st few h = h
  all_arrived_lawful frame count (k ∷ ks) st few h = all_arrived_lawful frame count ks (load_arrived capacity frame st k) few (arrived_lawful frame count k st few h)

  -- a load is requested
  pub requested_lawful : (frame count : ℕ) (file : SceneFile) (name : List ℕ) (delay : ℕ) (st : SceneState) → IsLawfulFile registry file → count + 1 ≤ MOST_EVENTS
      → IsLawfulScenes capacity registry count st → IsLawfulScenes capacity registry (count + 1) (requested capacity frame file name delay st)
  requested_lawful frame count file name delay st lawful few h = by (nat_eq delay 0)
    where
      asked : SceneState
      asked = with_load (record { name = name; due = frame + delay; file = file; state = Requested }) st

      new : Load
      new = record { name = name; due = frame + delay; file = file; state = Requested }

      among : (l : Load) → In l st.loads ⊎ In l (new ∷ []) → IsLawfulFile registry l.file
      among l (inl i) = h.loads l i
      among l (inr (inl e)) = subst (λ (y : Load). IsLawfulFile registry y.file) (sym e) lawful
      among l (inr (inr i)) = absurd i

      with_new : IsLawfulScenes capacity registry (count + 1) asked
      with_new = record {
        world = h.world;
        registry_is = h.registry_is;
        loads = λ l i. among l (in_append l st.loads (new ∷ []) i);
        count_is = (let more = length_more st.loads new in let is = h.count_is in omega arith);
      }

      by : (b : Bool) → IsLawfulScenes capacity registry (count + 1) (if b then load_arrived capacity frame asked (length st.loads) else asked)
      by true = arrived_lawful frame (count + 1) (length st.loads) asked few with_new
      by false = with_new

  -- a load is unloaded
  record IsDestroyed (w : World) : Type 0 where
    world : IsLawful capacity w
    registry_is : w.registry ≡ registry

  destroyed_lawful : (es : List Entity) (w : World) → IsDestroyed w → IsDestroyed (fold (destroyed capacity) w es)
  destroyed_lawful [] w h = h
  destroyed_lawful (e ∷ es) w h =
      destroyed_lawful es (destroyed capacity w e) (record {
        world = operate_lawful capacity fits w (On e Destroy) tt h.world;
        registry_is = operate_registry capacity w (On e Destroy) ∙ h.registry_is;
      })

  unload_lawful : (frame count k : ℕ) (load : Load) (st : SceneState) (s : LoadState) → In load st.loads → IsLawfulScenes capacity registry count st
      → IsLawfulScenes capacity registry count (load_unloaded capacity frame k load st s)
  unload_lawful frame count k load st s there h = by s
    where
      among : (l : Load) → (l ≡ record load { state = Unloaded }) ⊎ In l st.loads → IsLawfulFile registry l.file
      among l (inl e) = subst (λ (y : Load). IsLawfulFile registry y.file) (sym e) (h.loads load there)
      among l (inr i) = h.loads l i

      by : (s : LoadState) → IsLawfulScenes capacity registry count (load_unloaded capacity frame k load st s)
      by Requested = record {
        world = h.world;
        registry_is = h.registry_is;
        loads = λ l i. among l (in_set st.loads k (record load { state = Unloaded }) l i);
        count_is = length_set st.loads k (record load { state = Unloaded }) ∙ h.count_is;
      }
      by Arrived =
          let d = destroyed_lawful (tagged (k + 1) st.world.blocks) st.world (record { world = h.world; registry_is = h.registry_is }) in
          record {
            world = d.world;
            registry_is = d.registry_is;
            loads = λ l i. among l (in_set st.loads k (record load { state = Unloaded }) l i);
            count_is = length_set st.loads k (record load { state = Unloaded }) ∙ h.count_is;
          }
      by Refused = record { world = h.world; registry_is = h.registry_is; loads = h.loads; count_is = h.count_is }
      by Unloaded = record { world = h.world; registry_is = h.registry_is; loads = h.loads; count_is = h.count_is }

  pub unloaded_lawful : (frame count : ℕ) (name : List ℕ) (st : SceneState) → IsLawfulScenes capacity registry count st → IsLawfulScenes capacity registry count (unloaded capacity frame name st)
  unloaded_lawful frame count name st h = at (load_named name st.loads)
    where
      there : (k : ℕ) (o : Option Load) → slice_get st.loads k ≡ o → IsLawfulScenes capacity registry count (unloaded_there capacity frame name st k o)
      there k None is = record { world = h.world; registry_is = h.registry_is; loads = h.loads; count_is = h.count_is }
      there k (Some load) is = unload_lawful frame count k load st load.state (got_in st.loads k load is) h

      at : (o : Option ℕ) → IsLawfulScenes capacity registry count (unloaded_at capacity frame name st o)
      at None = record { world = h.world; registry_is = h.registry_is; loads = h.loads; count_is = h.count_is }
      at (Some k) = there k (slice_get st.loads k) refl
