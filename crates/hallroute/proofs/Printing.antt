-- The line of the bytes of a pair.
use Rattle.std.specs.Prelude.{◌≡◌, refl, Option, Some, None, List, [], ◌∷◌, ◌++◌, ℕ, ◌^◌, ◌≤◌, ◌<◌, length}
use Rattle.std.specs.Fmt as lib
use Rattle.std.specs.Io.KnownBytes.{Appends}
use Rattle.std.proofs.Common.{arith, sym, append-nil, append_assoc}
use Rattle.laws.specs.Table.{tabulate}
use Rattle.model.specs.declared.Refusal.{Refusal}
use Rattle.model.specs.Numbers.{number}
use Rattle.model.specs.Store.{u16_at}
use Rattle.model.specs.Hallroute.{text, decimal, pair_lines}
use Rattle.cards.specs.Decimal.{decimal_lem}
use Rattle.hallroute.specs.Printed.{pair_line}

-- ---- what a writer holds
pub appends_none : (old : Option (List ℕ)) → Appends old old []
appends_none None = tt
appends_none (Some xs) = sym (append-nil xs)

pub appends_more : (a b c : Option (List ℕ)) (xs ys : List ℕ) → Appends a b xs → Appends b c ys → Appends a c (xs ++ ys)
appends_more None b c xs ys p q = tt
appends_more (Some x) None c xs ys p q = absurd p
appends_more (Some x) (Some y) None xs ys p q = absurd q
appends_more (Some x) (Some y) (Some z) xs ys p q = rw (q, p) (append_assoc x xs ys)

-- ---- lines
module _ (st : List ℕ) where
  pub cut_line : (pair : List ℕ) → 0 < length pair → length pair < 4 → 99 ∷ 117 ∷ 116 ∷ 10 ∷ [] ≡ pair_lines st pair
  unfolding pair_lines tabulate
  cut_line [] h l = absurd (omega arith)
  cut_line (a ∷ []) h l = refl
  cut_line (a ∷ b ∷ []) h l = refl
  cut_line (a ∷ b ∷ c ∷ []) h l = refl
  cut_line (a ∷ b ∷ c ∷ d ∷ rest) h l = absurd (omega arith)

  pub whole_line : (pair : List ℕ) {source goal : ℕ} → length pair ≤ 4 → 4 ≤ length pair → source ≡ u16_at pair 0 → goal ≡ u16_at pair 2 → pair_line st source goal ≡ pair_lines st pair
  unfolding pair_lines u16_at
  whole_line [] h l = absurd (omega arith)
  whole_line (a ∷ []) h l = absurd (omega arith)
  whole_line (a ∷ b ∷ []) h l = absurd (omega arith)
  whole_line (a ∷ b ∷ c ∷ []) h l = absurd (omega arith)
  whole_line (a ∷ b ∷ c ∷ d ∷ []) h l = λ s g. rw (s, g, append-nil)
  whole_line (a ∷ b ∷ c ∷ d ∷ e ∷ rest) h l = absurd (omega arith)

-- the line of a refused hall file
pub refused_text : (a : List ℕ) {b c d : List ℕ} (r : Refusal) {n : ℕ} → n ≡ number r → n < 2 ^ 64 → b ≡ a ++ (104 ∷ 97 ∷ 108 ∷ 108 ∷ 32 ∷ 114 ∷ 101 ∷ 102 ∷ 117 ∷ 115 ∷ 101 ∷ 100 ∷ 32 ∷ [])
    → c ≡ b ++ lib.decimal n → d ≡ c ++ 10 ∷ [] → d ≡ a ++ (text "hall refused " ++ (decimal (number r) ++ text "\n"))
unfolding tabulate
refused_text a r {n} i l p q s = rw (s, q, p, ← i, decimal_lem n l) (simp append_assoc)
