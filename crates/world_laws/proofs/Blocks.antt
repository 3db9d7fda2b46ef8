-- Entering, leaving and writing keep blocks lawful.
use Rattle.std.proofs.Common.{◌≡◌, ℕ, suc, ◌+◌, ◌≤◌, ◌⊎◌, inl, inr, nat_lt, Bool, true, false, not, ◌&&◌, cond, List, [], ◌∷◌, ◌++◌, map, filter, length, refl, sym, ap, ap₂, ◌∙◌, subst, arith, ltb-true}
use Rattle.ent_types.specs.declared.entity.Entity.{Entity}
use Rattle.ent_types.specs.TypeSets.{has_type}
use Rattle.world_model.specs.Members.{In}
use Rattle.world_model.specs.Part.{same_entity}
use Rattle.world_model.specs.Row.{Row}
use Rattle.world_model.specs.World.{Home, Mark, Block, mark_type}
use Rattle.world_model.specs.Enter.{same_home, marks_at, enter, entered}
use Rattle.world_model.specs.Leave.{last_of, front_of, replaced, without_row, has_entity, left, no_rows, leave}
use Rattle.world_model.specs.Write.{marked, rewritten, rewrite}
use Rattle.world_model.specs.Lawful.{IsPast, IsLawfulBlock}
use Rattle.world_laws.proofs.Members.{in_map, in_filter, filter_passes, length_one_more, length_map}
use Rattle.world_laws.proofs.Same.{home_is}

-- ---- marks

pub marks_types : (now : ℕ) (types : List ℕ) → map mark_type (marks_at now types) ≡ types
marks_types now [] = refl
marks_types now (t ∷ ts) = ap (λ us. t ∷ us) (marks_types now ts)

-- the present moment is past, where it is a moment
pub present : (now : ℕ) → 1 ≤ now → IsPast now now
present now some = record { from_one = some; within = omega arith }

pub marks_now : (now : ℕ) → 1 ≤ now → (types : List ℕ) (m : Mark) → In m (marks_at now types) → IsPast now m.moment
marks_now now some types m i =
    let (t, j, e) = in_map (λ t. (let k : Mark = record { type_id = t; moment = now } in k)) m types i in
    subst (IsPast now) (sym (ap (λ (k : Mark). k.moment) e)) (present now some)

marked_types : (now : ℕ) (types : List ℕ) (ms : List Mark) → map mark_type (marked now types ms) ≡ map mark_type ms
marked_types now types [] = refl
marked_types now types (m ∷ ms) = ap₂ (λ t ts. t ∷ ts) (step (has_type types m.type_id)) (marked_types now types ms)
  where
    step : (b : Bool) → (cond b (record m { moment = now }) m).type_id ≡ m.type_id
    step true = refl
    step false = refl

pub marked_now : (now : ℕ) → 1 ≤ now → (types : List ℕ) (ms : List Mark) → ((m : Mark) → In m ms → IsPast now m.moment) → (m : Mark) → In m (marked now types ms) → IsPast now m.moment
marked_now now some types ms all m i =
    let (k, j, e) = in_map (λ (m : Mark). cond (has_type types m.type_id) (record m { moment = now }) m) m ms i in
    subst (λ (x : Mark). IsPast now x.moment) (sym e) (step k (has_type types k.type_id) (all k j))
  where
    step : (k : Mark) (b : Bool) → IsPast now k.moment → IsPast now (cond b (record k { moment = now }) k).moment
    step k true h = present now some
    step k false h = h

-- ---- numbers of rows

length_front : (r : Row) (rs : List Row) → length (front_of r rs) ≡ length rs
length_front r [] = refl
length_front r (q ∷ rs) = ap suc (length_front q rs)

length_without : (e : Entity) (rows : List Row) → length (without_row e rows) ≤ length rows
length_without e [] = omega arith
length_without e (r ∷ rs) = let a = length_map (λ (q : Row). cond (same_entity e q.entity) (last_of r rs) q) (front_of r rs) in let b = length_front r rs in omega arith

filled : (rows : List Row) → not (no_rows rows) ≡ true → 1 ≤ length rows
filled [] h = absurd (cc)
filled (r ∷ rs) h = omega arith

-- ---- blocks

module _ (capacity : List ℕ → ℕ) (now : ℕ) (some : 1 ≤ now) where
  abbrev pub AllLawful : List Block → Type 0
  AllLawful bs = (b : Block) → In b bs → IsLawfulBlock capacity now b

  pub enter_blocks : (home : Home) (row : Row) (bs : List Block) → 1 ≤ capacity home.types → AllLawful bs → AllLawful (enter (capacity home.types) now home row bs)
  unfolding enter
  enter_blocks home row [] fits all b (inl e) =
      subst (IsLawfulBlock capacity now) (sym e)
      (record { some = omega arith; few = fits; marked = marks_types now home.types; marks = marks_now now some home.types; order = present now some })
  enter_blocks home row [] fits all b (inr i) = absurd i
  enter_blocks home row (c ∷ cs) fits all b i =
      step (same_home home c.home) (nat_lt (length c.rows) (capacity home.types)) (home_is home c.home) refl i (enter_blocks home row cs fits (λ d j. all d (inr j)))
    where
      step : (s t : Bool) → (s ≡ true → home ≡ c.home) → nat_lt (length c.rows) (capacity home.types) ≡ t
          → In b (cond (s && t) (entered now row c ∷ cs) (c ∷ enter (capacity home.types) now home row cs))
          → AllLawful (enter (capacity home.types) now home row cs) → IsLawfulBlock capacity now b
      step true true same open_ (inl e) rest =
          let less = ltb-true (length c.rows) (capacity home.types) open_ in
          let more = length_one_more c.rows row in
          let there : capacity home.types ≡ capacity c.home.types = ap (λ (h : Home). capacity h.types) (same refl) in
          subst (IsLawfulBlock capacity now) (sym e)
          (record { some = omega arith; few = omega arith; marked = marks_types now c.home.types; marks = marks_now now some c.home.types; order = present now some })
      step true true same open_ (inr j) rest = all b (inr j)
      step true false same open_ (inl e) rest = subst (IsLawfulBlock capacity now) (sym e) (all c (inl refl))
      step true false same open_ (inr j) rest = rest b j
      step false t same open_ (inl e) rest = subst (IsLawfulBlock capacity now) (sym e) (all c (inl refl))
      step false t same open_ (inr j) rest = rest b j

  pub leave_blocks : (e : Entity) (bs : List Block) → AllLawful bs → AllLawful (leave now e bs)
  unfolding leave
  leave_blocks e bs all b i =
      let (c, j, is) = in_map (left now e) b bs (in_filter (λ (d : Block). not (no_rows d.rows)) b (map (left now e) bs) i) in
      let full = filled b.rows (filter_passes (λ (d : Block). not (no_rows d.rows)) b (map (left now e) bs) i) in
      subst (IsLawfulBlock capacity now) (sym is) (step c (has_entity e c.rows) (all c j) (subst (λ (d : Block). 1 ≤ length d.rows) is full))
    where
      step : (c : Block) (t : Bool) → IsLawfulBlock capacity now c → 1 ≤ length (cond t (record c { rows = without_row e c.rows; order = now }) c).rows
          → IsLawfulBlock capacity now (cond t (record c { rows = without_row e c.rows; order = now }) c)
      step c true g full = let f = g.few in let l = length_without e c.rows in record { some = full; few = omega arith; marked = g.marked; marks = g.marks; order = present now some }
      step c false g full = g

  pub rewrite_blocks : (types : List ℕ) (row : Row) (bs : List Block) → AllLawful bs → AllLawful (rewrite now types row bs)
  unfolding rewrite
  rewrite_blocks types row bs all b i =
      let (c, j, is) = in_map (rewritten now types row) b bs i in
      subst (IsLawfulBlock capacity now) (sym is) (step c (has_entity row.entity c.rows) (all c j))
    where
      step : (c : Block) (t : Bool) → IsLawfulBlock capacity now c → IsLawfulBlock capacity now (cond t (record c { rows = replaced row.entity row c.rows; marks = marked now types c.marks }) c)
      step c true g =
          let l = length_map (λ (r : Row). cond (same_entity row.entity r.entity) row r) c.rows in
          let a = g.some in let f = g.few in
          record { some = omega arith; few = omega arith; marked = marked_types now types c.marks ∙ g.marked; marks = marked_now now some types c.marks g.marks; order = g.order }
      step c false g = g
