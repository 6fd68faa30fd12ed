-- Where the parts of a hall stand in a store, and that a hall written into a store is read back.
use Rattle.std.specs.Prelude.{◌≡◌, refl, ℕ, ◌*◌, ◌≤◌, ◌<◌, length, get_or, drop}
use Rattle.std.proofs.Common.{sym, ap, ◌∙◌, arith, length-append, ext_get_or}
use mathlib.Core.List.{List, ◌++◌, append_assoc}
use Rattle.std.proofs.Math.ListN.{length-drop}
use Rattle.laws.specs.Region.{region, length_region, region_at}
use Rattle.laws.specs.Table.{length_tabulate, tabulate_at}
use Rattle.model.specs.declared.Measures.{Measures}
use Rattle.model.specs.Sectors.{sectors, cells}
use Rattle.model.specs.Halls.{Hall}
use Rattle.model.specs.Store.{measures_at, header, base_start, scaled_start, marks_start, mark_in, size_of, marks_in, decode, u16_bytes, encode, written}
use Rattle.model.specs.U16s.{length_u16s, u16_of, u16_past}

-- ---- a hall whose lists are as long as its measures say
pub record Laid (h : Hall) : Type 0 where
  pub base_cells : length h.base ≡ cells h.measures
  pub scaled_cells : length h.scaled ≡ cells h.measures
  pub marks_sides : length h.marks ≡ sectors h.measures * 4

-- ---- reading
pub mark_at_lem : (m : Measures) (st : List ℕ) (k : ℕ) → k < sectors m * 4 → get_or (marks_in m st) k 0 ≡ mark_in m st k
unfolding marks_in
mark_at_lem m st k h = tabulate_at (mark_in m st) (sectors m * 4) k 0 h

length_marks : (m : Measures) (st : List ℕ) → length (marks_in m st) ≡ sectors m * 4
unfolding marks_in
length_marks m st = length_tabulate (mark_in m st) (sectors m * 4) 0

pub decode_laid : (st : List ℕ) → size_of (measures_at st) ≤ length st → Laid (decode st)
unfolding decode
decode_laid st room = record {
  base_cells = length_region base_start (cells (measures_at st)) st (omega arith);
  scaled_cells = length_region (scaled_start (measures_at st)) (cells (measures_at st)) st (omega arith);
  marks_sides = length_marks (measures_at st) st;
}

-- ---- writing
module _ (h : Hall) (laid : Laid h) where
  pub length_encode : length (encode h) ≡ size_of h.measures
  unfolding encode
  length_encode = simp (length-append, length_u16s, laid.base_cells, laid.scaled_cells, laid.marks_sides) (omega arith)

  module _ (st : List ℕ) where
    pub length_written : size_of h.measures ≤ length st → length (written h st) ≡ length st
    unfolding written
    length_written room = simp (length-append, length-drop, length_encode) (omega arith)

    abbrev rest : List ℕ
    rest = u16_bytes h.marks ++ drop (size_of h.measures) st

    parts : written h st ≡ header h.measures ++ (h.base ++ (h.scaled ++ rest))
    unfolding written encode
    parts = simp append_assoc

    base_part : region base_start (cells h.measures) (written h st) ≡ h.base
    base_part = ap (region base_start (cells h.measures)) parts ∙ region_at base_start (cells h.measures) (header h.measures) h.base (h.scaled ++ rest) refl laid.base_cells

    scaled_part : region (scaled_start h.measures) (cells h.measures) (written h st) ≡ h.scaled
    scaled_part =
        ap (region (scaled_start h.measures) (cells h.measures)) (parts ∙ sym (append_assoc (header h.measures) h.base (h.scaled ++ rest)))
        ∙ region_at (scaled_start h.measures) (cells h.measures) (header h.measures ++ h.base) h.scaled rest (simp laid.base_cells (omega arith)) laid.scaled_cells

    -- what stands before the marks
    abbrev front : List ℕ
    front = header h.measures ++ (h.base ++ h.scaled)

    front_length : length front ≡ marks_start h.measures
    front_length = simp (length-append, laid.base_cells, laid.scaled_cells) (omega arith)

    mark_written : (k : ℕ) → k < length h.marks → mark_in h.measures (written h st) k ≡ get_or h.marks k 0
    mark_written k l =
        ap (λ (w : List ℕ). mark_in h.measures w k) (parts ∙ simp append_assoc)
        ∙ u16_past front rest (marks_start h.measures) (2 * k) front_length
        ∙ u16_of (drop (size_of h.measures) st) h.marks k l

    marks_part : marks_in h.measures (written h st) ≡ h.marks
    marks_part =
        ext_get_or 0 (marks_in h.measures (written h st)) h.marks (length_marks h.measures (written h st) ∙ sym laid.marks_sides)
        (λ k l.
        let m : k < sectors h.measures * 4 = rw (← length_marks h.measures (written h st)) l in
        mark_at_lem h.measures (written h st) k m ∙ mark_written k (rw laid.marks_sides m))

    pub decode_written : decode (written h st) ≡ h
    unfolding decode written encode
    decode_written = λ i. record { measures = h.measures; base = base_part i; scaled = scaled_part i; marks = marks_part i }
