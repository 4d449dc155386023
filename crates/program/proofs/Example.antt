-- 01, "Program": its example, and what a refusal prints, computed: theorems. Assumes nothing.
use Rattle.std.specs.Prelude.{◌≡◌, refl}
use Rattle.std.specs.Float.Ieee.{add, sub, mul, div, le, lt, eq, neg, of_bits, of_int}
use Rattle.whole.specs.First.{from}
use Rattle.text.specs.Bytes.{eqs}
use Rattle.text.specs.Field.{spaces_of, digits_of, columns, last_digit, field_text, value_of, candidate, field_of}
use Rattle.tables.specs.Table.{line_of, table_of}
use Rattle.geometry.specs.Plane.{off_grid, cross_of, dot_of, norm2_of, side, lifted, circle, on_open_segment}
use Rattle.ranges.specs.Ranges.{counts_refused, not_below, bad_vertex, bad_half_edge, bad_face, out_of_range}
use Rattle.links.specs.Links.{linked, links_broken}
use Rattle.checks.specs.Checks.{chart_refusal, tables_refusal}
use Rattle.reading.specs.Reading.{counts_of, head_of, body_of, load_of, chart_in}
use Rattle.locate.specs.Location.{location_of}
use Rattle.weights.specs.Barycentric.{two_point_interpolation, barycentric_interpolation, weigh_two, weigh_three}
use Rattle.neighbors.specs.Neighbors.{edge_neighbors, neighbors_of}
use Rattle.natural.specs.Natural.{shares_from, shares_of, settled}
use Rattle.interpolate.specs.Values.{sum_from}
use Rattle.values.specs.Value.{located_value, value_on}
use Rattle.accounts.specs.Rulings.{entry_ruling}
use Rattle.triangle.specs.TriangleA.{file_a, vertices_a, edges_a, faces_a}
use Rattle.log_text.specs.Log.{log_of}
use Rattle.report.specs.Lines.{answer_line, section_line, retired_line, refusal_line, answer_lines, section_lines, book_lines, output_of}
use Rattle.program.specs.Program.{ran_of, printed_of, program_of}
use Rattle.program.specs.Example.{example_log, example_output, Refusals}

pub example : program_of file_a example_log ≡ example_output
unfolding example_log example_output file_a vertices_a edges_a faces_a from eqs spaces_of digits_of columns last_digit field_text value_of candidate field_of line_of table_of off_grid cross_of dot_of norm2_of side lifted circle on_open_segment counts_refused not_below bad_vertex bad_half_edge bad_face out_of_range linked links_broken chart_refusal tables_refusal counts_of head_of body_of load_of chart_in location_of two_point_interpolation barycentric_interpolation weigh_two weigh_three edge_neighbors neighbors_of shares_from shares_of settled sum_from located_value value_on entry_ruling log_of answer_line section_line retired_line answer_lines section_lines book_lines output_of ran_of printed_of add sub mul div of_bits of_int le lt eq neg
example = refl

pub refusals : Refusals
unfolding example_log example_output file_a vertices_a edges_a faces_a from eqs spaces_of digits_of columns last_digit field_text value_of candidate field_of line_of table_of off_grid cross_of dot_of norm2_of side lifted circle on_open_segment counts_refused not_below bad_vertex bad_half_edge bad_face out_of_range linked links_broken chart_refusal tables_refusal counts_of head_of body_of load_of chart_in location_of two_point_interpolation barycentric_interpolation weigh_two weigh_three edge_neighbors neighbors_of shares_from shares_of settled sum_from located_value value_on entry_ruling log_of answer_line section_line retired_line answer_lines section_lines book_lines output_of ran_of printed_of add sub mul div of_bits of_int le lt eq neg refusal_line
refusals = record { no-chart = refl; chart-first = refl; log-cut = refl; no-entry = refl }
