-- The names that the commands of a system make.
use Rattle.std.proofs.Common.{ℕ, suc, ◌≡◌, ◌+◌, ◌≤◌, List, [], ◌∷◌, true, not, ◌&&◌, ◌||◌, Option, Some, None, length, refl, sym, ap, ◌∙◌, subst, arith}
use Rattle.std.specs.Prelude.{codes, is_some, find, option_map}
use Rattle.std.specs.List.{list_any, AllByRecursion as Each}
use Rattle.std.proofs.lemmas.Bool.{and_parts, and_from}
use Rattle.std.proofs.lemmas.Option.{none-some, same_Some}
use Rattle.ent_types.specs.declared.point.Point.{Point}
use Rattle.ent_types.specs.Names.{is_name}
use Rattle.ent_types.specs.Types.{same_name}
use Rattle.expr_trees.specs.declared.tree.RefExpr.{RefExpr}
use Rattle.expr_trees.specs.declared.tree.RefExpr.TheVariants as refs
use Rattle.expr_read.specs.declared.scope.Made.{Made}
use Rattle.expr_read.specs.ScopeOf.{made_reference, is_new_name as is_new}
use Rattle.scenario_record.specs.declared.record.CommandEntry.{CommandEntry}
use Rattle.scenario_record.specs.TextNames.{Names, ref_fits}
use Rattle.scenario_record.specs.Lawful.{name_made, same_point, is_made, is_name_of, is_new_name}
use Rattle.scenario_tables.specs.ReadCommands.{with_made, made_from}
use Rattle.read_laws.proofs.Lists.{each_weaker, find_ok}

module _ (point : Point) where
  -- a name that is made by one of these commands, of which the first has this number
  record IsMadeBy (first : ℕ) (cs : List CommandEntry) (m : Made) : Type 0 where
    pub place : ℕ
    pub number : m.number ≡ first + place
    pub made : m.same_buffer ≡ true → is_made point cs place ≡ true

  later : (first : ℕ) (c : CommandEntry) (cs : List CommandEntry) (m : Made) → IsMadeBy (first + 1) cs m → IsMadeBy first (c ∷ cs) m
  later first c cs m h = record { place = suc h.place; number = h.number ∙ omega arith; made = h.made }

  all_made : (first : ℕ) (cs : List CommandEntry) → Each (IsMadeBy first cs) (made_from first point cs)
  all_made first [] = tt
  all_made first (c ∷ cs) =
      let behind = each_weaker (IsMadeBy (first + 1) cs) (IsMadeBy first (c ∷ cs)) (later first c cs) (made_from (first + 1) point cs) (all_made (first + 1) cs) in
      by behind (name_made c.act) refl
    where
      by : Each (IsMadeBy first (c ∷ cs)) (made_from (first + 1) point cs) → (name : Option (List ℕ)) → name_made c.act ≡ name
          → Each (IsMadeBy first (c ∷ cs)) (with_made first (same_point c.buffer point) name (made_from (first + 1) point cs))
      by behind None is = behind
      by behind (Some n) is = (record { place = 0; number = omega arith; made = λ same. and_from _ _ same (ap (λ o. is_some o) is) }, behind)

  -- a made name is one that an earlier command of the same buffer makes
  pub named_is_made : (names : Names) (cs : List CommandEntry) (n : List ℕ) (r : RefExpr) → made_reference (made_from 0 point cs) n ≡ Some r
      → ref_fits names (is_made point cs) r ≡ true
  named_is_made names cs n r is = by (find (λ (m : Made). m.same_buffer && same_name n m.name) (made_from 0 point cs)) refl is
    where
      by : (o : Option Made) → find (λ (m : Made). m.same_buffer && same_name n m.name) (made_from 0 point cs) ≡ o
          → option_map (λ (m : Made). refs.Made m.number) o ≡ Some r → ref_fits names (is_made point cs) r ≡ true
      by None _ got = absurd (none-some r got)
      by (Some m) found got =
          let (h, passes) = find_ok (IsMadeBy 0 cs) (λ (k : Made). k.same_buffer && same_name n k.name) (made_from 0 point cs) m (all_made 0 cs) found in
          let place : h.place ≡ m.number = sym (h.number ∙ omega arith) in
          subst (λ (q : RefExpr). ref_fits names (is_made point cs) q ≡ true) (same_Some (refs.Made m.number) r got)
          (subst (λ k. is_made point cs k ≡ true) place (h.made (and_parts _ _ passes).0))

  pub few_made : (first : ℕ) (cs : List CommandEntry) → length (made_from first point cs) ≤ length cs
  few_made first [] = omega arith
  few_made first (c ∷ cs) = by (few_made (first + 1) cs) (name_made c.act)
    where
      by : length (made_from (first + 1) point cs) ≤ length cs → (name : Option (List ℕ)) → length (with_made first (same_point c.buffer point) name (made_from (first + 1) point cs)) ≤ suc (length cs)
      by few None = omega (arith, few)
      by few (Some n) = omega (arith, few)

  -- the names that are taken are those that the commands make
  same_taken : (n : List ℕ) (first : ℕ) (cs : List CommandEntry)
      → list_any (λ (m : Made). same_name n m.name) (made_from first point cs) ≡ list_any (λ (c : CommandEntry). is_name_of n (name_made c.act)) cs
  same_taken n first [] = refl
  same_taken n first (c ∷ cs) = by (same_taken n (first + 1) cs) (name_made c.act)
    where
      by : list_any (λ (m : Made). same_name n m.name) (made_from (first + 1) point cs) ≡ list_any (λ (d : CommandEntry). is_name_of n (name_made d.act)) cs → (name : Option (List ℕ)) → list_any (λ (m : Made). same_name n m.name) (with_made first (same_point c.buffer point) name (made_from (first + 1) point cs))
          ≡ (is_name_of n name || list_any (λ (d : CommandEntry). is_name_of n (name_made d.act)) cs)
      by same None = same
      by same (Some k) = ap (λ b. same_name n k || b) same

  pub new_is_new : (n : List ℕ) (cs : List CommandEntry) → is_new (made_from 0 point cs) n ≡ true → is_new_name cs (Some n) ≡ true
  new_is_new n cs is =
      subst (λ b. (is_name n && not (same_name n (codes "null") || (same_name n (codes "self") || b))) ≡ true) (same_taken n 0 cs) is
