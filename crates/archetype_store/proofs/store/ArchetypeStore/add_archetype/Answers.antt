use Rattle.std.proofs.Common.{Vec, Global, ◌≡◌, ℕ, nat_eq, cond, List, [], ◌∷◌, ◌++◌, length, map, Some, sym, ap, ◌∙◌, subst, arith}
use Rattle.std.specs.Cmp.Lexicographic.{pointwise}
use Rattle.std.specs.HashMap.{get}
use Rattle.std.specs.Map.{lookup}
use Rattle.std.specs.Option.{IfSome}
use Rattle.std.specs.Vec.{vec_capacity}
use Rattle.std.proofs.lemmas.List.{map-append}
use Rattle.archetype_store.specs.Stores.{StoreState, LacksTypes}
use Rattle.archetype_store.specs.Inside.{AreFound, kept, IsOrderly}
use Rattle.archetype_store.proofs.Archetypes.{found-more, orderly-archetype}
use Rattle.archetype_store.proofs.store.ArchetypeStore.add_archetype.Goals as goal

pub invariant_of-self-2 : goal.invariant_of-self-2
invariant_of-self-2 c =
    let s = c.self.inside in
    let types : List ℕ = c.args.types.now in
    let members : List (List ℕ) = map (λ (v : Vec ℕ Global). v.items) s.members.items in
    let archetypes : c.push_reserved.new.self.items ≡ s.archetypes.items ++ types ∷ [] = c.push_reserved.ensures.items ∙ ap (λ (ts : List (List ℕ)). ts ++ types ∷ []) c.reserve_both.ensures.archetypes_stay in
    let lists : map (λ (v : Vec ℕ Global). v.items) c.push_reserved-2.new.self.items ≡ members ++ [] ∷ [] =
    ap (map (λ (v : Vec ℕ Global). v.items)) (c.push_reserved-2.ensures.items ∙ ap (λ (vs : List (Vec ℕ Global)). vs ++ c.new.result ∷ []) c.reserve_both.ensures.members_stay)
    ∙ map-append (λ (v : Vec ℕ Global). v.items) s.members.items (c.new.result ∷ [])
    ∙ ap (λ ns. members ++ ns ∷ []) c.new.ensures.items in
    let known : IfSome s.registry (λ r. r ≡ c.args.registry.now) = subst (λ (v : StoreState). IfSome v.registry (λ r. r ≡ c.args.registry.now)) (sym c.self.view_is) c.requires.same in
    let lacks : LacksTypes types s.archetypes.items = subst (λ (v : StoreState). LacksTypes types v.archetypes) (sym c.self.view_is) c.requires.new in
    let count : c.len-a.result ≡ length s.archetypes.items = omega (arith, c.len-a.ensures, s.archetypes.ok.0) in
    let found : AreFound (s.archetypes.items ++ types ∷ []) (get (pointwise nat_eq) c.remember.new.by_types) =
    found-more s.archetypes.items (get (pointwise nat_eq) s.by_types) c.self.invariant.1.1.1 types lacks (get (pointwise nat_eq) c.remember.new.by_types)
    (λ ts. c.in_ok-remember.ensures.noted.0 ts ∙ ap (λ n. cond (pointwise nat_eq types ts) (Some n) (get (pointwise nat_eq) s.by_types ts)) count) in (
      subst (λ r. IsOrderly r c.push_reserved.new.self.items (map (λ (v : Vec ℕ Global). v.items) c.push_reserved-2.new.self.items) (kept s.slots.items) s.free.items (vec_capacity s.free) s.order.items s.shared) (sym c.in_ok-remember.ensures.ok)
          (subst (λ ts. IsOrderly (Some c.args.registry.now) ts (map (λ (v : Vec ℕ Global). v.items) c.push_reserved-2.new.self.items) (kept s.slots.items) s.free.items (vec_capacity s.free) s.order.items s.shared) (sym archetypes)
          (subst (λ m. IsOrderly (Some c.args.registry.now) (s.archetypes.items ++ types ∷ []) m (kept s.slots.items) s.free.items (vec_capacity s.free) s.order.items s.shared) (sym lists)
          (orderly-archetype s.registry c.args.registry.now s.archetypes.items members (kept s.slots.items) s.free.items (vec_capacity s.free) s.order.items s.shared c.self.invariant.0 known types
          c.in_ok-has_room.ensures.ok (omega (arith, c.if-a.false, count))))),
      (
        c.self.invariant.1.0,
        (c.self.invariant.1.1.0, subst (λ ts. AreFound ts (get (pointwise nat_eq) c.remember.new.by_types)) (sym archetypes) found),
      ),
    )

-- nothing was noted
pub invariant_of-self-in_err-remember : goal.invariant_of-self-in_err-remember
invariant_of-self-in_err-remember c =
    let s = c.self.inside in
    let t = c.reserve_both.new in (
      subst (λ r. IsOrderly r t.archetypes.items (map (λ (v : Vec ℕ Global). v.items) t.members.items) (kept s.slots.items) s.free.items (vec_capacity s.free) s.order.items s.shared) (sym c.in_err-remember.ensures.err)
          (subst (λ ts. IsOrderly s.registry ts (map (λ (v : Vec ℕ Global). v.items) t.members.items) (kept s.slots.items) s.free.items (vec_capacity s.free) s.order.items s.shared) (sym c.reserve_both.ensures.archetypes_stay)
          (subst (λ (ms : List (Vec ℕ Global)). IsOrderly s.registry s.archetypes.items (map (λ (v : Vec ℕ Global). v.items) ms) (kept s.slots.items) s.free.items (vec_capacity s.free) s.order.items s.shared) (sym c.reserve_both.ensures.members_stay)
          c.self.invariant.0)),
      (
        c.self.invariant.1.0,
        (
          c.self.invariant.1.1.0,
          subst (λ es. AreFound t.archetypes.items (λ ts. lookup (pointwise nat_eq ts) es)) (sym c.in_err-remember.ensures.unnoted)
              (subst (λ ts. AreFound ts (get (pointwise nat_eq) s.by_types)) (sym c.reserve_both.ensures.archetypes_stay) c.self.invariant.1.1.1),
        ),
      ),
    )
