-- A plan is lent entry by entry.
use Rattle.std.proofs.Common.{◌≡◌, ℕ, ◌+◌, ◌-◌, ◌<◌, ◌≤◌, ◌⊎◌, inl, inr, Bool, true, false, cond, nat_eq, List, [], ◌∷◌, ◌++◌, drop, length, refl, sym, ap, ap₂, ◌∙◌, subst, arith}
use Rattle.std.specs.Bool.{MatchBool}
use Rattle.std.proofs.lemmas.Bool.{cases_eq}
use Rattle.std.proofs.lemmas.List.{append-nil, append_assoc}
use Rattle.world_model.specs.Members.{In}
use Rattle.world_laws.proofs.Members.{in_append}
use Rattle.chunk_block.specs.Blocks.{LoanState, AreHeld, IsLoanOf}
use Rattle.archetype_store.specs.Stores.{Numbered, StoreState, OfNumber, OfBlock, with_block_in}
use Rattle.block_laws.specs.Lending.{after_lending}
use Rattle.world_places.proofs.Numbers.{of_member, of_other_changed}
use Rattle.block_columns.specs.Types.{TypeState}
use Rattle.world_loans.specs.Returns.{with_given}
use Rattle.world_loans.specs.Plans.{CanLend, after_lends, loan_from, loan_in, loans_from}
use Rattle.structural_ops.specs.Lent.{LoansState}

-- after k entries
pub record Lends (entries : List (ℕ × List ℕ)) (k : ℕ) (start now : StoreState) (room : ℕ) (loans : LoansState) : Type 0 where
  pub store : after_lends (drop k entries) now ≡ after_lends entries start
  pub made : loans.loans ++ loans_from (drop k entries) now ≡ loans_from entries start
  pub spare : loans.spare ≡ room - k
  pub can : CanLend (drop k entries) now
  pub own : (l : LoanState) → In l loans.loans → OfBlock l.number (λ b. IsLoanOf b l) now.blocks

pub loan_is : (e : ℕ × List ℕ) (loan : LoanState) (bs : List Numbered) → OfBlock e.0 (λ b. loan ≡ loan_from e b) bs → loan ≡ loan_in e bs
loan_is e loan [] is = absurd is
loan_is e loan (b ∷ bs) is = by (nat_eq b.number e.0) is (loan_is e loan bs)
  where
    by : (t : Bool) → MatchBool t (loan ≡ loan_from e b.block) (OfBlock e.0 (λ b. loan ≡ loan_from e b) bs) → (OfBlock e.0 (λ b. loan ≡ loan_from e b) bs → loan ≡ loan_in e bs)
        → loan ≡ cond t (loan_from e b.block) (loan_in e bs)
    by true h rest = h
    by false h rest = rest h

pub lends_first : (entries : List (ℕ × List ℕ)) (s : StoreState) (room : ℕ) (loans : LoansState) → loans.loans ≡ [] → loans.spare ≡ room → CanLend entries s → Lends entries 0 s s room loans
lends_first entries s room loans empty spare can = record {
  store = refl;
  made = ap (λ (ls : List LoanState). ls ++ loans_from entries s) empty;
  spare = (let same = spare in omega arith);
  can = can;
  own = λ l i. absurd (subst (In l) empty i);
}

module _ (entries : List (ℕ × List ℕ)) (k : ℕ) (start now : StoreState) (room : ℕ) (loans : LoansState) (is : Lends entries k start now room loans)
    (e : ℕ × List ℕ) (next : drop k entries ≡ e ∷ drop (k + 1) entries) where
  pub lends_can : OfBlock e.0 (λ b. AreHeld e.1 b.columns) now.blocks
  lends_can = (subst (λ es. CanLend es now) next is.can).0

  module _ (later : StoreState) (loan : LoanState) (more : LoansState) (store : later ≡ with_block_in e.0 (after_lending e.1) now)
      (made : OfBlock e.0 (λ b. loan ≡ loan_from e b) now.blocks) (own : OfBlock e.0 (λ b. IsLoanOf b loan) later.blocks)
      (others : (other : LoanState) → OfBlock e.0 (λ b. IsLoanOf b other) now.blocks → OfBlock e.0 (λ b. IsLoanOf b other) later.blocks)
      (added : more ≡ record { loans = loans.loans ++ loan ∷ []; spare = loans.spare - 1 }) where
    number : loan.number ≡ e.0
    number = let (b, i, same, from) = of_member e.0 (λ b. loan ≡ loan_from e b.block) now.blocks made in ap (λ (l : LoanState). l.number) from

    still : (l : LoanState) → In l (loans.loans ++ loan ∷ []) → OfBlock l.number (λ b. IsLoanOf b l) later.blocks
    still l i = by (in_append l loans.loans (loan ∷ []) i)
      where
        old : OfBlock l.number (λ b. IsLoanOf b l) now.blocks → OfBlock l.number (λ b. IsLoanOf b l) later.blocks
        old before =
            elim (cases_eq l.number e.0) [
              | inl same ↦
                  subst (λ n. OfBlock n (λ b. IsLoanOf b l) later.blocks) (sym same) (others l (subst (λ n. OfBlock n (λ b. IsLoanOf b l) now.blocks) same before))
              | inr apart ↦
                  subst (λ (s : StoreState). OfBlock l.number (λ b. IsLoanOf b l) s.blocks) (sym store)
                  (of_other_changed l.number e.0 (after_lending e.1) (λ b. IsLoanOf b.block l) now.blocks apart before)
            ]

        by : (In l loans.loans) ⊎ (In l (loan ∷ [])) → OfBlock l.number (λ b. IsLoanOf b l) later.blocks
        by (inl i) = old (is.own l i)
        by (inr (inl same)) =
            subst (λ (x : LoanState). OfBlock x.number (λ b. IsLoanOf b x) later.blocks) (sym same)
            (subst (λ n. OfBlock n (λ b. IsLoanOf b loan) later.blocks) (sym number) own)
        by (inr (inr i)) = absurd i

    pub lends_next : Lends entries (k + 1) start later room more
    lends_next = record {
      store = ap (after_lends (drop (k + 1) entries)) store ∙ sym (ap (λ es. after_lends es now) next) ∙ is.store;
      made =
          ap (λ (x : LoansState). x.loans ++ loans_from (drop (k + 1) entries) later) added
          ∙ ap (λ (s : StoreState). (loans.loans ++ loan ∷ []) ++ loans_from (drop (k + 1) entries) s) store
          ∙ append_assoc loans.loans (loan ∷ []) (loans_from (drop (k + 1) entries) (with_block_in e.0 (after_lending e.1) now))
          ∙ ap (λ (l : LoanState). loans.loans ++ l ∷ loans_from (drop (k + 1) entries) (with_block_in e.0 (after_lending e.1) now)) (loan_is e loan now.blocks made)
          ∙ sym (ap (λ es. loans.loans ++ loans_from es now) next)
          ∙ is.made;
      spare = ap (λ (x : LoansState). x.spare) added ∙ (let same = is.spare in let less : (room - k) - 1 ≡ room - (k + 1) = omega arith in ap (λ n. n - 1) same ∙ less);
      can = subst (λ (s : StoreState). CanLend (drop (k + 1) entries) s) (sym store) (subst (λ es. CanLend es now) next is.can).1;
      own = λ l i. still l (subst (λ (x : LoansState). In l x.loans) added i);
    }

-- after all entries
pub lends_last : (entries : List (ℕ × List ℕ)) (start now : StoreState) (room : ℕ) (loans : LoansState) (none : drop (length entries) entries ≡ [])
    → Lends entries (length entries) start now room loans → (now ≡ after_lends entries start) × (loans ≡ record { loans = loans_from entries start; spare = room - length entries })
lends_last entries start now room loans none is = (
  sym (ap (λ es. after_lends es now) none) ∙ is.store,
  ap₂ (λ (ls : List LoanState) (n : ℕ). let x : LoansState = record { loans = ls; spare = n } in x)
      (sym (append-nil loans.loans) ∙ sym (ap (λ es. loans.loans ++ loans_from es now) none) ∙ is.made) is.spare,
)

-- a loan that is not given back is still one of its block
pub given_still : (n : ℕ) (ps : List TypeState) (now later : StoreState) (l : LoanState) → later ≡ with_block_in n (with_given ps) now
    → (OfBlock n (λ b. IsLoanOf b l) now.blocks → OfBlock n (λ b. IsLoanOf b l) later.blocks) → OfBlock l.number (λ b. IsLoanOf b l) now.blocks → OfBlock l.number (λ b. IsLoanOf b l) later.blocks
given_still n ps now later l stored here before =
    elim (cases_eq l.number n) [
      | inl same ↦ subst (λ m. OfBlock m (λ b. IsLoanOf b l) later.blocks) (sym same) (here (subst (λ m. OfBlock m (λ b. IsLoanOf b l) now.blocks) same before))
      | inr apart ↦
          subst (λ (s : StoreState). OfBlock l.number (λ b. IsLoanOf b l) s.blocks) (sym stored) (of_other_changed l.number n (with_given ps) (λ b. IsLoanOf b.block l) now.blocks apart before)
    ]
