-- What the program prints, by the store that it opened: the lines of the pairs do not depend on what stands behind the hall in it.
use Rattle.std.specs.Prelude.{ℕ, zero, suc, ◌*◌, ◌/◌, ◌%◌, ◌≤◌, ◌<◌, ◌≡◌, refl, List, [], ◌∷◌, ◌++◌, min, length, take, drop}
use Rattle.std.proofs.Common.{arith, sym, ◌∙◌, append-nil, length-append}
use Rattle.std.proofs.Math.Path.{ap}
use Rattle.std.proofs.Math.Bool.{false}
use Rattle.std.proofs.Math.Dec.{ltb}
use Rattle.std.proofs.Math.Seq.{drop-nil, take-append_seam, drop-append_seam}
use borrow.Author.Tests.{lt-ltb, le-ltb}
use Rattle.laws.specs.Search.{any}
use Rattle.laws.specs.Ladder.{refuse}
use Rattle.laws.specs.Table.{length_tabulate}
use Rattle.model.specs.declared.Measures.{Measures}
use Rattle.model.specs.declared.Refusal.{Refusal}
use Rattle.model.specs.Numbers.{number, some_number}
use Rattle.model.specs.Cells.{side_at}
use Rattle.model.specs.Sectors.{sectors, cells}
use Rattle.model.specs.Windows.{mark_of, marks_of}
use Rattle.model.specs.Halls.{Hall}
use Rattle.model.specs.ScaleLengths.{length_floor}
use Rattle.model.specs.Store.{measures_at, size_of, marks_in, decode, encode, written, cost_in, base_in}
use Rattle.model.specs.StoreLayout.{Laid, length_encode, decode_written}
use Rattle.model.specs.Accepted.{bad_sectors, bad_scale}
use Rattle.model.specs.Calls.{bad_mark, if_accepted, check_number, built}
use Rattle.model.specs.Route.{route_of}
use Rattle.model.specs.Hallroute.{text, decimal, pair_text, pair_lines, file_size, hall_lines, file_lines, hallroute}
use Rattle.hallroute.specs.Opening.{file_number, file_hall, open_into}

-- the line of a pair
abbrev pub pair_line : List ℕ → ℕ → ℕ → List ℕ
pair_line st source goal = pair_text st source goal (route_of (decode st) source goal)

-- ---- a hall in a store
-- the lines go by the check and the hall
same_lines : (a b : List ℕ) → check_number a ≡ check_number b → decode a ≡ decode b → (rest : List ℕ) → pair_lines a rest ≡ pair_lines b rest
unfolding pair_lines pair_text
same_lines a b e f [] = refl
same_lines a b e f (w ∷ []) = refl
same_lines a b e f (w ∷ x ∷ []) = refl
same_lines a b e f (w ∷ x ∷ y ∷ []) = refl
same_lines a b e f (w ∷ x ∷ y ∷ z ∷ rest) = rw (e, f, same_lines a b e f rest)

module _ (h : Hall) (laid : Laid h) where
  abbrev hall_number : ℕ
  hall_number =
      refuse (bad_sectors h.measures) 11
      (refuse (bad_scale h.measures) 12
      (refuse (any (bad_mark h.measures h.marks) (sectors h.measures * 4)) 20 0))

  long_written : (st : List ℕ) → size_of h.measures ≤ length (written h st)
  unfolding written
  long_written st = simp (length-append, length_encode h laid) (omega arith)

  -- the check looks at the hall alone
  check_written : (st : List ℕ) → check_number (written h st) ≡ hall_number
  unfolding check_number refuse decode written encode
  check_written st =
      let four : ltb (length (written h st)) 4 ≡ false = le-ltb (length (written h st)) 4 (omega (arith, long_written st)) in
      let room : ltb (length (written h st)) (size_of h.measures) ≡ false = le-ltb (length (written h st)) (size_of h.measures) (long_written st) in
      let marks : marks_in h.measures (written h st) ≡ h.marks = ap (λ (g : Hall). g.marks) (decode_written h laid st) in
      rw (four, room, marks)

  whole : written h [] ≡ encode h
  unfolding written
  whole = rw (drop-nil, append-nil)

  -- so do the lines
  lines_written : (st rest : List ℕ) → pair_lines (written h st) rest ≡ pair_lines (encode h) rest
  lines_written st rest =
      same_lines (written h st) (encode h) (check_written st ∙ sym (check_written []) ∙ ap check_number whole) (decode_written h laid st ∙ sym (decode_written h laid []) ∙ ap decode whole) rest

-- ---- the hall of a file
length_base : (file : List ℕ) (size : ℕ) → length (base_in file size) ≡ size
unfolding base_in
length_base file size = length_tabulate (cost_in file) size 0

file_laid : (file : List ℕ) → Laid (file_hall file)
unfolding built marks_of
file_laid file =
    let m : Measures = measures_at file in
    let base : List ℕ = base_in file (cells m) in
    let long : length base ≡ cells m = length_base file (cells m) in
    record { base_cells = long; scaled_cells = length_floor (cells m) m base long; marks_sides = length_tabulate (λ k. mark_of m (built m base).scaled (k / 4) (side_at (k % 4))) (sectors m * 4) 0 }

-- ---- what is printed
-- for a hall file and what stands behind it
module _ (file rest : List ℕ) where
  refused_lines : (n : ℕ) → 0 < n → hall_lines file rest n ≡ text "hall refused " ++ (decimal n ++ text "\n")
  unfolding hall_lines
  refused_lines zero h = absurd (omega arith)
  refused_lines (suc n) h = refl

  pub file_refused : (r : Refusal) → number r ≡ file_number file → file_lines file rest ≡ text "hall refused " ++ (decimal (number r) ++ text "\n")
  unfolding file_lines
  file_refused r e = rw (← e) (refused_lines (number r) (some_number r))

  -- with any bytes behind the hall
  pub file_opened : (st : List ℕ) {new : List ℕ} → 0 ≡ file_number file → new ≡ open_into file st → file_lines file rest ≡ pair_lines new rest
  unfolding file_lines hall_lines open_into if_accepted
  file_opened st e o = rw (o, ← e) (sym (lines_written (file_hall file) (file_laid file) st rest))

module _ (input : List ℕ) where
  pub too_long : 65536 < length input → hallroute input ≡ text "too long\n"
  unfolding hallroute
  too_long h = rw (lt-ltb 65536 (length input) h)

  pub short : length input ≤ 65536 → hallroute input ≡ file_lines (take (file_size input) input) (drop (file_size input) input)
  unfolding hallroute
  short h = rw (le-ltb 65536 (length input) h)

  module _ (within : length input ≤ 65536) where
    abbrev file : List ℕ
    file = take (file_size input) input

    abbrev rest : List ℕ
    rest = drop (file_size input) input

    pub refused : (n : ℕ) → file_number file ≡ suc n → hallroute input ≡ text "hall refused " ++ (decimal (suc n) ++ text "\n")
    unfolding file_lines
    refused n e = short within ∙ rw e (refused_lines file rest (suc n) (omega arith))

    -- with any bytes behind the hall
    pub opened : (st : List ℕ) → file_number file ≡ 0 → hallroute input ≡ pair_lines (open_into file st) rest
    opened st e = short within ∙ file_opened file rest st (sym e) refl

-- the line of the first pair, and the lines after it
first_four : (st rest : List ℕ) → pair_lines st rest ≡ pair_lines st (take (min (length rest) 4) rest) ++ pair_lines st (drop (min (length rest) 4) rest)
unfolding pair_lines
first_four st [] = refl
first_four st (a ∷ []) = sym (append-nil _)
first_four st (a ∷ b ∷ []) = sym (append-nil _)
first_four st (a ∷ b ∷ c ∷ []) = sym (append-nil _)
first_four st (a ∷ b ∷ c ∷ d ∷ rest) =
    let four : min (suc (suc (suc (suc (length rest))))) 4 ≡ 4 = omega arith in
    rw (four, append-nil)

-- the front is a pair, or all where that is less
pub first_pair : (st front back : List ℕ) {rest : List ℕ} → rest ≡ front ++ back → length front ≡ min 4 (length rest) → pair_lines st rest ≡ pair_lines st front ++ pair_lines st back
first_pair st front back {rest} all long =
    let n : min (length rest) 4 ≡ length front = omega (arith, long) in
    let f : take (length front) rest ≡ front = ap (take (length front)) all ∙ take-append_seam front back in
    let b : drop (length front) rest ≡ back = ap (drop (length front)) all ∙ drop-append_seam front back in
    first_four st rest ∙ rw (n, f, b)

pub no_pair : (st rest : List ℕ) → length rest ≡ 0 → pair_lines st rest ≡ []
unfolding pair_lines
no_pair st [] e = refl
no_pair st (x ∷ rest) e = absurd (omega arith)
