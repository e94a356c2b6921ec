-- Rows of worked scenarios, and what the player tells of them.
use Rattle.std.specs.Prelude.{ℕ, zero, suc, ◌+◌, List, [], ◌∷◌, ◌++◌, Bool, not, if◌then◌else◌, Result, Ok, Err}
use Rattle.std.specs.Prelude.{codes, decimal, string_bytes}
use Rattle.std.specs.List.{flat_map}
use Rattle.std.specs.Str.{bytes_eq}
use Rattle.scenario.specs.declared.fault.ReadFault.{ReadFault}
use Rattle.scenario.specs.declared.fault.ReadFault.TheVariants.{Unread, Shape, OutOfMemory}
use Rattle.scenario.specs.declared.line.Scenario.{Scenario}
use Rattle.scenario.specs.Reading.{reading}
use Rattle.report.specs.Report.{text, place_text, player_bounds}
use Rattle.worked_rows.specs.declared.rows.Row.{Row}
use Rattle.worked_rows.specs.Script.{script_text, unfolded, count_of_texts}

-- a row as it stands in the input: its name, the scenario's script, a line `--`, the report's, a line `==`
unfoldable pub row_text : Row → List ℕ
row_text row =
    string_bytes row.name ++ (codes "\n" ++ (script_text row.scenario.items ++
    (codes "--\n" ++ (script_text row.report.items ++ codes "==\n"))))

-- what is told of what bytes read as
abbrev pub answer_text : Result Scenario ReadFault → List ℕ
answer_text (Ok s) = text player_bounds s
answer_text (Err Unread) = []
answer_text (Err (Shape place)) = place_text place
answer_text (Err OutOfMemory) = []

-- whether the report is another than what is told of the scenario with number k
abbrev pub differs : Row → ℕ → Bool
differs row k =
    not (bytes_eq (answer_text (reading (unfolded k row.scenario.items))) (unfolded k row.report.items))

-- the name of a row with the scenario's number, from 1, if its report differs
abbrev pub name_if_differs : Row → ℕ → List (List ℕ)
name_if_differs row k =
    if differs row k then ((string_bytes row.name ++ (codes " " ++ decimal (k + 1))) ∷ []) else []

-- so of the first n scenarios of a row
unfoldable pub names_among : Row → ℕ → List (List ℕ)
names_among row zero = []
names_among row (suc n) = names_among row n ++ name_if_differs row n

-- and of all scenarios of all rows
abbrev pub names_of_differing : List Row → List (List ℕ)
names_of_differing rows = flat_map (λ row. names_among row (count_of_texts row.scenario.items)) rows
