-- The blocks of a store whose types pass can be filtered and read.
use Rattle.std.proofs.Common.{◌≡◌, ℕ, ◌<◌, inl, inr, nat_eq, Bool, true, false, cond, List, [], ◌∷◌, ◌≤◌, length, map, Option, Some, None, refl, sym, ap, ◌∙◌, subst, arith}
use Rattle.std.specs.Prelude.{option_map, unwrap_or}
use Rattle.std.specs.List.{list_all}
use Rattle.std.specs.Option.{IfSome, IsSome}
use Rattle.std.proofs.lemmas.Bool.{and_parts, eq-eqb, eqb-true}
use Rattle.ent_types.specs.declared.type_info.TypeInfo.{TypeInfo}
use Rattle.ent_types.specs.declared.value.Value.{Value}
use Rattle.ent_types.specs.TypeLookups.{is_shared_at}
use Rattle.ent_types.specs.TypeSets.{has_type}
use Rattle.world_model.specs.Found.{part_at}
use Rattle.world_model.specs.Members.{In, IsRising, AreDistinct}
use Rattle.world_model.specs.Part.{PartOf, part_type, at_type}
use Rattle.world_model.specs.Row.{Row}
use Rattle.world_model.specs.Versions.{IsLawfulCode}
use Rattle.world_model.specs.World.{capacity}
use Rattle.world_laws.proofs.Members.{in_filter, in_map, filter_passes, map_in}
use Rattle.world_laws.proofs.Types.{filter_rising, has_in}
use Rattle.world_places.specs.Placing.{home_of, world_block}
use Rattle.world_places.proofs.Leaving.{new_whole}
use Rattle.world_rows.proofs.CodeLawful.{IsMarked, code_blocks, code_rows}
use Rattle.structural_ops.specs.Numbered.{IsStoreOf}
use Rattle.structural_ops.specs.Worlds.{WorldState}
use Rattle.structural_ops.proofs.Present.{row_placed}
use Rattle.chunk_block.specs.Blocks.{BlockState, IsWhole}
use Rattle.world_places.proofs.Marks.{rising_distinct}
use Rattle.world_places.proofs.Numbers.{of_in}
use Rattle.archetype_store.specs.Stores.{Numbered, StoreState, IsStore, registry_of, shared_types, types_at}
use Rattle.run_model.specs.LawfulQuery.{IsLawfulFilter}
use Rattle.run_model.specs.Query.{passes}
use Rattle.run_laws.proofs.Lists.{in_passing}
use Rattle.query_select.specs.declared.filter.Filter.{Filter}
use Rattle.query_select.specs.declared.query.Query.{Query}
use Rattle.query_select.specs.Caches.{matching_among}
use Rattle.query_select.specs.Entries.{entry_of, unfiltered}
use Rattle.query_select.specs.Filters.{CanCompareAll, CanFilter}
use Rattle.query_select.specs.Visits.{AreFilterable, CanSelect, IsReady, IsWholeOf}
use Rattle.query_select.proofs.Grouped.{of_archetype}

all_member : (p : ℕ → Bool) (xs : List ℕ) (x : ℕ) → list_all p xs ≡ true → In x xs → p x ≡ true
all_member p [] x h i = absurd i
all_member p (y ∷ ys) x h (inl e) = ap p e ∙ (and_parts (p y) (list_all p ys) h).0
all_member p (y ∷ ys) x h (inr i) = all_member p ys x (and_parts (p y) (list_all p ys) h).1 i

-- a part of a type that is there is found
part_there : (t : ℕ) (ps : List (PartOf Value)) → In t (map part_type ps) → IsSome (part_at t ps)
part_there t [] i = absurd i
part_there t (p ∷ ps) i = by (nat_eq p.type_id t) refl i (part_there t ps)
  where
    by : (b : Bool) → nat_eq p.type_id t ≡ b → In t (map part_type (p ∷ ps)) → (In t (map part_type ps) → IsSome (part_at t ps))
        → IsSome (option_map (λ (q : PartOf Value). q.values) (cond b (Some p) (at_type part_type t ps)))
    by true e i rest = refl
    by false e (inl same) rest = absurd (cc (sym e ∙ eq-eqb p.type_id t (sym same)))
    by false e (inr j) rest = rest j

module _ (registry : List TypeInfo) (s : StoreState) (sound : IsStore s) (can : CanSelect registry s) where
  -- a store that has a block has the registry
  pub registry_is : (b : Numbered) → In b s.blocks → registry_of s ≡ registry
  registry_is b i = by s.registry can.registered sound.registered (sound.blocks b i).there
    where
      by : (o : Option (List TypeInfo)) → IfSome o (λ r. r ≡ registry) → (o ≡ None → s.archetypes ≡ []) → b.archetype < length s.archetypes → unwrap_or o [] ≡ registry
      by None is none there = let zero : length s.archetypes ≡ 0 = ap length (none refl) in absurd (omega arith)
      by (Some r) is none there = is

  pub whole_of : (b : Numbered) → In b s.blocks → IsWholeOf (registry_of s) b
  whole_of b i = record { whole = (can.blocks b i).whole; shapes = (sound.blocks b i).shapes }

module _ (registry : List TypeInfo) (query : Query) (filter : Filter) (s : StoreState) (sound : IsStore s) (can : CanSelect registry s) (lawful : IsLawfulFilter registry (entry_of query filter)) where
  can_filter : (b : Numbered) → In b s.blocks → passes registry (unfiltered query) b.block.types ≡ true → CanFilter filter b
  can_filter b i pass = record {
    once = subst AreDistinct (sym (can.blocks b i).marked) (rising_distinct b.block.types (can.blocks b i).rising);
    marked = λ t j. subst (In t) (sym (can.blocks b i).marked) (there t (lawful.changed t j).bound);
    shared = shared;
  }
    where
      there : (t : ℕ) → In t query.all → In t b.block.types
      there t j = has_in t b.block.types (all_member (has_type b.block.types) query.all t (and_parts (list_all (has_type b.block.types) query.all) _ pass).0 j)

      types : map part_type b.shared ≡ shared_types registry b.block.types
      types = (sound.blocks b i).shared ∙ ap (λ r. shared_types r b.block.types) (registry_is registry s sound can b i)

      shared : CanCompareAll filter.shared b
      shared p j = record {
        rising = subst IsRising (sym types) (filter_rising (is_shared_at registry) b.block.types (can.blocks b i).rising);
        there = part_there p.ty.0 b.shared
            (subst (In p.ty.0) (sym types) (in_passing (is_shared_at registry) p.ty.0 b.block.types (there p.ty.0 (lawful.shared p j).bound) (lawful.shared p j).shared));
      }

  -- the blocks of an archetype that matches
  pub filterable : (n a : ℕ) → In a (matching_among registry (unfiltered query) s.archetypes n) → AreFilterable filter s a
  filterable n a i m j =
      let at = in_map (λ (b : Numbered). b.number) m (of_archetype s.blocks a) j in
      let b = at.0 in
      let there : In b s.blocks = in_filter _ b s.blocks at.1 in
      let same : b.archetype ≡ a = eqb-true b.archetype a (filter_passes (λ (c : Numbered). nat_eq c.archetype a) b s.blocks at.1) in
      let pass : passes registry (unfiltered query) (types_at s.archetypes a) ≡ true = filter_passes (λ k. passes registry (unfiltered query) (types_at s.archetypes k)) a _ i in
      of_in m (CanFilter filter) s.blocks sound.numbers b there (sym at.2)
      (can_filter b there (ap (λ (ts : List ℕ). passes registry (unfiltered query) ts) ((sound.blocks b there).types ∙ ap (types_at s.archetypes) same) ∙ pass))

-- ---- the store of a world

pub can_select : (w : WorldState) (s : StoreState) → IsStoreOf w s → IsLawfulCode (capacity w.world.registry) w.world → CanSelect w.world.registry s
can_select w s of lawful = record { registered = of.registered; blocks = ready }
  where
    ready : (b : Numbered) → In b s.blocks → IsReady b.block
    ready b i = record {
      whole = subst (λ (x : BlockState). IsWhole x.columns) (sym (of.whole b i)) (new_whole w.world.registry b.block.types);
      marked = block.marked;
      rising = rising b.block.rows refl block.some;
    }
      where
        there : In (world_block b) w.world.blocks
        there = subst (In (world_block b)) of.blocks (map_in world_block b s.blocks i)

        block : IsMarked (world_block b)
        block = code_blocks (capacity w.world.registry) w.world lawful (world_block b) there

        rising : (rows : List Row) → b.block.rows ≡ rows → 1 ≤ length rows → IsRising b.block.types
        rising [] e some = absurd (omega arith)
        rising (r ∷ rs) e some =
            (code_rows (capacity w.world.registry) w.world lawful (record { home = home_of b; row = r })
            (row_placed (world_block b) r w.world.blocks there (subst (In r) (sym e) (inl refl)))).home.types
