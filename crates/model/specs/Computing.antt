-- The word that opens every definition: a theorem under `unfolding computing` is proved by computation. It stands for a word of each subject.
use mathlib.Core.List.{flat_map}
use Rattle.std.specs.Float.Ieee.{mul, div, lt, le, of_bits}
use Rattle.laws.specs.Fold.{run, bit}
use Rattle.laws.specs.Search.{first, any, passing}
use Rattle.laws.specs.Ladder.{refuse}
use Rattle.laws.specs.Region.{region, within}
use Rattle.laws.specs.Table.{tabulate}
use Rattle.laws.specs.Digits.{packed, unpacked}
use Rattle.laws.specs.Relaxing.{outset}
use Rattle.laws.specs.LeastCosts.{links, lowered, swept, sweeps, least_costs}
use Rattle.laws.specs.FirstPath.{tight, better, closer, next, path}
use Rattle.laws.specs.Members.{pairs}
use Rattle.laws.specs.Winner.{beat, winner}
use Rattle.model.specs.Cells.{beside}
use Rattle.model.specs.Costs.{open_at}
use Rattle.model.specs.Sectors.{across, down, beyond, has_beyond}
use Rattle.model.specs.Steps.{flat_steps}
use Rattle.model.specs.FlatSteps.{steps_in}
use Rattle.model.specs.Directions.{landing, on_floor}
use Rattle.model.specs.Measuring.{cut_down, round_up}
use Rattle.model.specs.Scaling.{is_wall, passes, block_step, block_passed, walk, scale_cell, scale_sector, scale_floor}
use Rattle.model.specs.Moves.{move, moves, moves_to, joined}
use Rattle.model.specs.Windows.{border_cells, open_place, bits, mark_of, marks_of, is_open, begins, begun, window_count, first_place, last_place, crossing, window_at, side_windows}
use Rattle.model.specs.Portals.{is_portal, midpoint, mid_cell, facing, head_of, outer_edge, inner_edge, edge_at, edges_from, edges_of, edges, portal_graph}
use Rattle.model.specs.Change.{nearby, is_there, for_nearby, reset_sector, rescaled, is_nearby, remarked, changed, exceeds_at, exceeds}
use Rattle.model.specs.LeastPath.{node_rank, keys_to, least_path}
use Rattle.model.specs.Route.{starts, ends, end_of, linked_pair, run_of, route_pairs, chosen_pair, step_at, steps_of, through_pair, through_portals, one_step, route_of}
use Rattle.model.specs.Account.{fed, account_after, account_costs, border_moves}
use Rattle.model.specs.Store.{u16_at, marks_in, decode, u16_bytes, encode, written, entry_names, cost_in, base_in, is_named, named_cells, file_of}
use Rattle.model.specs.Accepted.{bad_sectors, bad_scale}
use Rattle.model.specs.Numbers.{answered}
use Rattle.model.specs.Calls.{or_else, if_accepted, value_number, measure_number, plan_number, plan_answer, form_number, entry_off, entry_again, entries_number, read_number, read_answer, read_into}
use Rattle.model.specs.Calls.{build_number, built, build_into, bad_mark, check_number, alter_number, change_number, change_into}
use Rattle.model.specs.Calls.{step_list, found_number, route_number, outcome, route_answer, route_steps, route_flat}
use Rattle.model.specs.Calls.{windows_from, flat_windows, windows_number, windows_answer, windows_flat, write_number, write_answer, write_into, store_after_call, store_after}
use Rattle.model.specs.Hallroute.{digits, window_text, step_text, steps_text, answer_text, pair_text, pair_lines, file_size, hall_lines, file_lines, hallroute}

unfoldable in_numbers : Unit {0}
unfolding mul div lt le of_bits bit packed unpacked
in_numbers = tt

unfoldable in_lists : Unit {0}
unfolding run first any passing refuse region within tabulate flat_map pairs beat winner
in_lists = tt

unfoldable in_graphs : Unit {0}
unfolding links lowered swept sweeps outset least_costs tight better closer next path
in_graphs = tt

unfoldable in_floor : Unit {0}
unfolding beside open_at across down beyond has_beyond flat_steps steps_in landing on_floor bad_sectors bad_scale
in_floor = tt

unfoldable in_scaling : Unit {0}
unfolding cut_down round_up is_wall passes block_step block_passed walk scale_cell scale_sector scale_floor move moves moves_to joined
in_scaling = tt

unfoldable in_windows : Unit {0}
unfolding border_cells open_place bits mark_of marks_of is_open begins begun window_count first_place last_place crossing window_at side_windows
in_windows = tt

unfoldable in_portals : Unit {0}
unfolding is_portal midpoint mid_cell facing head_of outer_edge inner_edge edge_at edges_from edges_of edges portal_graph node_rank keys_to least_path
in_portals = tt

unfoldable in_change : Unit {0}
unfolding nearby is_there for_nearby reset_sector rescaled is_nearby remarked changed exceeds_at exceeds
in_change = tt

unfoldable in_route : Unit {0}
unfolding starts ends end_of linked_pair run_of route_pairs chosen_pair step_at steps_of through_pair through_portals one_step route_of
in_route = tt

unfoldable in_bytes : Unit {0}
unfolding fed account_after account_costs border_moves u16_at marks_in decode u16_bytes encode written entry_names cost_in base_in is_named named_cells file_of
in_bytes = tt

unfoldable in_calls : Unit {0}
unfolding answered or_else if_accepted value_number measure_number plan_number plan_answer form_number entry_off entry_again entries_number read_number read_answer read_into
in_calls = tt

unfoldable in_stores : Unit {0}
unfolding build_number built build_into bad_mark check_number alter_number change_number change_into
in_stores = tt

unfoldable in_routes : Unit {0}
unfolding step_list found_number route_number outcome route_answer route_steps route_flat
in_routes = tt

unfoldable in_listed : Unit {0}
unfolding windows_from flat_windows windows_number windows_answer windows_flat write_number write_answer write_into store_after_call store_after
in_listed = tt

unfoldable in_text : Unit {0}
unfolding digits window_text step_text steps_text answer_text pair_text pair_lines file_size hall_lines file_lines hallroute
in_text = tt

unfoldable pub computing : Unit {0}
unfolding in_numbers in_lists in_graphs in_floor in_scaling in_windows in_portals in_change in_route in_bytes in_calls in_stores in_routes in_listed in_text
computing = tt
