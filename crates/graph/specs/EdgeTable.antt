-- The weights of the portal graph as one list by arc number, and the graph that such a list stands for.
use Rattle.std.specs.Prelude.{ℕ, ◌-◌, ◌+◌, ◌*◌, ◌≤◌, ◌<◌, ◌≡◌, refl, ◌⊎◌, List, [], length, get_or, set, replicate}
use Rattle.std.proofs.Common.{add-zero, arith, sym, ap, subst, ◌∙◌, inl, inr, length-set}
use Rattle.std.proofs.Math.ListN.{get_or-eq_default}
use Rattle.std.proofs.lemmas.List.{length-replicate, get_or-replicate}
use borrow.Rule.Slice.PartMut.{put_mid}
use Rattle.laws.specs.Region.{region, within, within_came, length_within, get_or_below, get_or_inside}
use Rattle.laws.specs.Table.{tabulate, length_tabulate, tabulate_at, Tabled, tabled_more, tabled_all}
use Rattle.laws.specs.Graph.{Graph, Sound, BothWays, below_or}
use Rattle.model.specs.declared.Measures.{Measures}
use Rattle.model.specs.declared.Side.{Side}
use Rattle.model.specs.Cells.{side_number}
use Rattle.model.specs.Sectors.{sectors}
use Rattle.model.specs.Halls.{Hall, mark_at}
use Rattle.model.specs.Portals.{sector_portals, portal_count, arc_count, arc_tail, arc_place, arc_at, facing, head_of, edges_of, edges, portal_graph}
use Rattle.model.specs.PortalCrossings.{Fits}
use Rattle.model.specs.PortalEdges.{portal_sound, portal_both_ways}
use Rattle.model.specs.Store.{measures_at, marks_in, decode}
use Rattle.model.specs.Checked.{Checked}
use Rattle.model.specs.StoreLayout.{decode_laid}

-- a hall of these measures with nothing in it: which portals face each other goes by the measures alone
abbrev pub bare : Measures → Hall
bare m = record { measures = m; base = []; scaled = []; marks = [] }

-- the weights of a hall's portal graph
unfoldable pub edge_table : Hall → List ℕ
edge_table h = tabulate (λ e. (portal_graph h).weight e) (arc_count h.measures) 0

-- the graph that has its weights from a list
abbrev pub table_graph : Measures → List ℕ → Graph
table_graph m table = record {
  nodes = portal_count m;
  arcs = arc_count m;
  tail = arc_tail;
  head = λ e. head_of (bare m) (arc_tail e) (arc_place e);
  weight = λ e. get_or table e 0;
}

-- ---- the graph of the filled table is the portal graph
pub length_table : (h : Hall) → length (edge_table h) ≡ arc_count h.measures
unfolding edge_table
length_table h = length_tabulate (λ e. (portal_graph h).weight e) (arc_count h.measures) 0

table_weight : (h : Hall) (e : ℕ) → get_or (edge_table h) e 0 ≡ (portal_graph h).weight e
unfolding edge_table portal_graph edges
table_weight h e = go (below_or e (arc_count h.measures))
  where
    go : (e < arc_count h.measures) ⊎ (arc_count h.measures ≤ e) → get_or (edge_table h) e 0 ≡ (portal_graph h).weight e
    go (inl l) = tabulate_at (λ a. (portal_graph h).weight a) (arc_count h.measures) e 0 l
    go (inr l) =
        let past : length (tabulate (edges_of h) (portal_count h.measures) 0) ≤ arc_tail e = omega (arith, length_tabulate (edges_of h) (portal_count h.measures) 0) in
        get_or-eq_default (edge_table h) 0 (omega (arith, length_table h))
        ∙ sym (ap (λ (row : List ℕ). get_or row (arc_place e) 0) (get_or-eq_default (tabulate (edges_of h) (portal_count h.measures) 0) [] past))

pub table_graph_lem : (h : Hall) → table_graph h.measures (edge_table h) ≡ portal_graph h
unfolding portal_graph head_of facing
table_graph_lem h = λ i. record {
  nodes = portal_count h.measures;
  arcs = arc_count h.measures;
  tail = arc_tail;
  head = λ e. head_of h (arc_tail e) (arc_place e);
  weight = λ e. table_weight h e i;
}

-- ---- filling it
-- the first n weights stand in the list
abbrev pub Filled : Hall → ℕ → List ℕ → Type 0
Filled h n t = Tabled (λ e. (portal_graph h).weight e) (arc_count h.measures) n t

pub filled_all : (h : Hall) {n : ℕ} {t : List ℕ} → Filled h n t → arc_count h.measures ≤ n → t ≡ edge_table h
unfolding edge_table
filled_all h f l = tabled_all f l

-- the first c places of number p hold what g says: a list that was filled up to them by a rule, which g follows there, is filled up to their end
pub record Row (g : ℕ → ℕ) (p c : ℕ) (t₀ t : List ℕ) : Type 0 where
  pub within : c ≤ sector_portals
  pub long : length t ≡ length t₀
  pub grown : (f : ℕ → ℕ) (n : ℕ) → Tabled f n (p * sector_portals) t₀ → ((k : ℕ) → k < sector_portals → g k ≡ f (arc_at p k)) → Tabled f n (arc_at p c) t

pub row_none : (g : ℕ → ℕ) (p : ℕ) (t : List ℕ) → Row g p 0 t t
row_none g p t = record { within = omega arith; long = refl; grown = λ f n r _. rw (add-zero (p * sector_portals)) r }

pub row_more : {g : ℕ → ℕ} {p c w : ℕ} {t₀ t : List ℕ} → Row g p c t₀ t → c < sector_portals → p * sector_portals + sector_portals ≤ length t₀ → w ≡ g c → Row g p (c + 1) t₀ (set t (arc_at p c) w)
row_more {g} {p} {c} {w} {t₀} {t} row l k e =
    let sum : p * sector_portals + (c + 1) ≡ arc_at p c + 1 = omega arith in
    record {
      within = omega arith;
      long = length-set t (arc_at p c) w ∙ row.long;
      grown = λ f n r same. rw sum (tabled_more (row.grown f n r same) (omega (arith, r.long)) (e ∙ same c l));
    }

pub row_all : {g : ℕ → ℕ} {p c : ℕ} {t₀ t : List ℕ} → Row g p c t₀ t → sector_portals ≤ c → Row g p sector_portals t₀ t
row_all {g} {p} {c} {t₀} {t} row l = subst (λ (k : ℕ). Row g p k t₀ t) (omega (arith, row.within)) row

-- zeros put in a row's place
pub row_clear : (p k : ℕ) (t₀ : List ℕ) {ys : List ℕ} → k ≡ sector_portals → p * sector_portals + sector_portals ≤ length t₀ → ys ≡ replicate sector_portals 0
    → Row (λ c. 0) p sector_portals t₀ (put_mid (p * sector_portals) k t₀ ys)
row_clear p k t₀ {ys} size room e = rw (within_came first sector_portals k zeros t₀ ys size e) (record {
  within = omega arith;
  long = long;
  grown = λ f n r same. record { within = omega (arith, r.long, room); long = long ∙ r.long; at = λ j l. at f n r same j l (below_or j first) };
})
  where
    first : ℕ
    first = p * sector_portals

    zeros : List ℕ → List ℕ
    zeros _ = replicate sector_portals 0

    kept : length (zeros (region first sector_portals t₀)) ≡ sector_portals
    kept = length-replicate {A = ℕ} sector_portals 0

    long : length (within first sector_portals zeros t₀) ≡ length t₀
    long = length_within first sector_portals zeros t₀ room kept

    at : (f : ℕ → ℕ) (n : ℕ) → Tabled f n first t₀ → ((c : ℕ) → c < sector_portals → 0 ≡ f (arc_at p c)) → (j : ℕ) → j < arc_at p sector_portals → (j < first) ⊎ (first ≤ j)
        → get_or (within first sector_portals zeros t₀) j 0 ≡ f j
    at f n r same j l (inl b) = get_or_below first sector_portals zeros t₀ room kept j b ∙ r.at j b
    at f n r same j l (inr b) =
        let place : j ≡ first + (j - first) = omega arith in
        let low : j - first < sector_portals = omega arith in
        let there : get_or (within first sector_portals zeros t₀) (first + (j - first)) 0 ≡ f (first + (j - first)) =
        get_or_inside first sector_portals zeros t₀ room kept (j - first) low ∙ get_or-replicate sector_portals (j - first) 0 0 low ∙ same (j - first) low in
        subst (λ (i : ℕ). get_or (within first sector_portals zeros t₀) i 0 ≡ f i) (sym place) there

-- ---- a store that passes the check
pub checked_fits : {st : List ℕ} → Checked st → Fits (decode st)
unfolding decode
checked_fits {st} ok = record { small = ok.measures.few_sectors; marked = λ s side. go s side (below_or (s * 4 + side_number side) (sectors (measures_at st) * 4)) }
  where
    go : (s : ℕ) (side : Side) → (s * 4 + side_number side < sectors (measures_at st) * 4) ⊎ (sectors (measures_at st) * 4 ≤ s * 4 + side_number side) → mark_at (decode st) s side < 1024
    go s side (inl l) = omega (arith, ok.small_marks (s * 4 + side_number side) l)
    go s side (inr l) = omega (arith, get_or-eq_default (marks_in (measures_at st) st) 0 {n = s * 4 + side_number side} (omega (arith, (decode_laid st ok.room).marks_sides)))

-- the table of such a store stands for a graph that can be searched from its end
pub table_sound : {h : Hall} → Fits h → Sound (table_graph h.measures (edge_table h))
table_sound {h} fits = rw (table_graph_lem h) (portal_sound h fits)

pub table_both_ways : {h : Hall} → Fits h → BothWays (table_graph h.measures (edge_table h))
table_both_ways {h} fits = subst (λ (g : Graph). BothWays g) (sym (table_graph_lem h)) (portal_both_ways h fits)
