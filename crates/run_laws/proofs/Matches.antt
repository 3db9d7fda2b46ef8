-- A row that matches has types that pass.
use Rattle.std.proofs.Common.{◌≡◌, ℕ, nat_eq, Bool, true, false, not, ◌&&◌, ◌||◌, List, [], ◌∷◌, refl}
use Rattle.std.specs.List.{list_all, list_any}
use Rattle.ent_types.specs.declared.type_info.TypeInfo.{TypeInfo}
use Rattle.ent_types.specs.TypeLookups.{is_enableable_at}
use Rattle.ent_types.specs.TypeSets.{has_type}
use Rattle.world_model.specs.Row.{Cell}
use Rattle.world_model.specs.Found.{Found}
use Rattle.scenario_record.specs.declared.record.SystemEntry.{SystemEntry}
use Rattle.run_model.specs.Query.{is_empty, is_off, is_on, is_disabled, matches, passes}

both_true : (b c : Bool) → (b && c) ≡ true → (b ≡ true) × (c ≡ true)
both_true true c e = (refl, e)
both_true false c e = absurd (cc)

all_weaker : (p q : ℕ → Bool) → ((t : ℕ) → p t ≡ true → q t ≡ true) → (ts : List ℕ) → list_all p ts ≡ true → list_all q ts ≡ true
all_weaker p q weaker [] h = refl
all_weaker p q weaker (t ∷ ts) h = let a = both_true (p t) (list_all p ts) h in rw (weaker t a.0) (all_weaker p q weaker ts a.1)

any_weaker : (p q : ℕ → Bool) → ((t : ℕ) → p t ≡ true → q t ≡ true) → (ts : List ℕ) → list_any p ts ≡ true → list_any q ts ≡ true
any_weaker p q weaker [] h = absurd (cc)
any_weaker p q weaker (t ∷ ts) h = by (p t) (q t) (weaker t) h (any_weaker p q weaker ts)
  where
    by : (b c : Bool) → (b ≡ true → c ≡ true) → (b || list_any p ts) ≡ true → (list_any p ts ≡ true → list_any q ts ≡ true) → (c || list_any q ts) ≡ true
    by b true w h rest = refl
    by true false w h rest = let no_way : false ≡ true = w refl in absurd (cc)
    by false false w h rest = rest h

-- what holds of no more than another thing holds of none where that holds of none
none_weaker : (p q : ℕ → Bool) → ((t : ℕ) → q t ≡ true → p t ≡ true) → (ts : List ℕ) → not (list_any p ts) ≡ true → not (list_any q ts) ≡ true
none_weaker p q weaker ts h = by (list_any p ts) (list_any q ts) (any_weaker q p weaker ts) h
  where
    by : (b c : Bool) → (c ≡ true → b ≡ true) → not b ≡ true → not c ≡ true
    by true c w h = absurd (cc)
    by false false w h = refl
    by false true w h = let no_way : false ≡ true = w refl in absurd (cc)

pub matches_pass : (registry : List TypeInfo) (s : SystemEntry) (x : Found) → matches registry s x ≡ true → passes registry s x.home.types ≡ true
matches_pass registry s x h =
    let a = both_true (list_all (is_on registry x) s.all) _ h in
    let b = both_true (is_empty s.any || list_any (is_on registry x) s.any) _ a.1 in
    let c = both_true (not (list_any (is_on registry x) s.none)) _ b.1 in
    let d = both_true (list_all (is_disabled registry x) s.disabled) _ c.1 in
    let all = all_weaker (is_on registry x) (has_type x.home.types) there s.all a.0 in
    let some = either (is_empty s.any) b.0 in
    let none = none_weaker (is_on registry x) (λ t. has_type x.home.types t && not (is_enableable_at registry t)) always s.none c.0 in
    let off = all_weaker (is_disabled registry x) (has_type x.home.types) there_off s.disabled d.0 in
    rw (all, some, none, off) d.1
  where
    there : (t : ℕ) → is_on registry x t ≡ true → has_type x.home.types t ≡ true
    there t e = (both_true (has_type x.home.types t) (not (is_off registry t x.row.cells)) e).0

    there_off : (t : ℕ) → is_disabled registry x t ≡ true → has_type x.home.types t ≡ true
    there_off t e = (both_true (has_type x.home.types t) (is_off registry t x.row.cells) e).0

    always : (t : ℕ) → (has_type x.home.types t && not (is_enableable_at registry t)) ≡ true → is_on registry x t ≡ true
    always t e = by (has_type x.home.types t) (is_enableable_at registry t) e
      where
        by : (b c : Bool) → (b && not c) ≡ true → (b && not (c && list_any (λ (d : Cell). nat_eq d.type_id t && d.off) x.row.cells)) ≡ true
        by true true e = absurd (cc)
        by true false e = refl
        by false c e = absurd (cc)

    either : (b : Bool) → (b || list_any (is_on registry x) s.any) ≡ true → (b || list_any (has_type x.home.types) s.any) ≡ true
    either true e = refl
    either false e = any_weaker (is_on registry x) (has_type x.home.types) there s.any e
