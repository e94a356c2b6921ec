-- Rows that stand one behind the other.
use Rattle.std.proofs.Common.{◌≡◌, ℕ, suc, ◌+◌, List, [], ◌∷◌, ◌++◌, codes, string_bytes, sym, ap, ◌∙◌, arith, append_assoc, append-nil}
use Rattle.std.specs.List.{flat_map}
use Rattle.std.proofs.lemmas.List.Concat.{flat_map-append}
use Rattle.worked_rows.specs.declared.rows.Row.{Row}
use Rattle.worked_rows.specs.Rows.{row_text, name_if_differs, names_among}
use Rattle.worked_rows.specs.Script.{script_text}

parts : (n a s m r e b : List ℕ) → (n ++ (a ++ (s ++ (m ++ (r ++ e))))) ++ b ≡ n ++ (a ++ (s ++ (m ++ (r ++ (e ++ b)))))
parts n a s m r e b = simp append_assoc

-- a row that was read is what stood first
row_read : (row : Row) (name scenario report behind rest : List ℕ) → string_bytes row.name ≡ name → script_text row.scenario.items ≡ scenario → script_text row.report.items ≡ report
    → rest ≡ name ++ (codes "\n" ++ (scenario ++ (codes "--\n" ++ (report ++ (codes "==\n" ++ behind))))) → rest ≡ row_text row ++ behind
unfolding row_text
row_read row name scenario report behind rest n s r e =
    let whole : row_text row ++ behind ≡ string_bytes row.name ++ (codes "\n" ++ (script_text row.scenario.items ++ (codes "--\n" ++ (script_text row.report.items ++ (codes "==\n" ++ behind))))) =
    parts (string_bytes row.name) (codes "\n") (script_text row.scenario.items) (codes "--\n") (script_text row.report.items) (codes "==\n") behind in
    e ∙ sym (whole ∙ ap (λ (x : List ℕ). x ++ (codes "\n" ++ (script_text row.scenario.items ++ (codes "--\n" ++ (script_text row.report.items ++ (codes "==\n" ++ behind)))))) n
    ∙ ap (λ (x : List ℕ). name ++ (codes "\n" ++ (x ++ (codes "--\n" ++ (script_text row.report.items ++ (codes "==\n" ++ behind)))))) s
    ∙ ap (λ (x : List ℕ). name ++ (codes "\n" ++ (scenario ++ (codes "--\n" ++ (x ++ (codes "==\n" ++ behind)))))) r)

-- one row more
pub one_row_more : (rows : List Row) (row : Row) (name scenario report behind rest text : List ℕ) → string_bytes row.name ≡ name → script_text row.scenario.items ≡ scenario → script_text row.report.items ≡ report
    → rest ≡ name ++ (codes "\n" ++ (scenario ++ (codes "--\n" ++ (report ++ (codes "==\n" ++ behind))))) → flat_map row_text rows ++ rest ≡ text
    → flat_map row_text (rows ++ row ∷ []) ++ behind ≡ text
one_row_more rows row name scenario report behind rest text n s r e so_far =
    ap (λ (l : List ℕ). l ++ behind) (flat_map-append row_text rows (row ∷ []) ∙ ap (λ (l : List ℕ). flat_map row_text rows ++ l) (append-nil (row_text row)))
    ∙ append_assoc (flat_map row_text rows) (row_text row) behind
    ∙ ap (λ (l : List ℕ). flat_map row_text rows ++ l) (sym (row_read row name scenario report behind rest n s r e))
    ∙ so_far

-- no scenario of a row yet
pub none_named : (row : Row) (old : List (List ℕ)) → old ≡ old ++ names_among row 0
unfolding names_among
none_named row old = sym (append-nil old)

-- one scenario more
pub named_more : (row : Row) (k : ℕ) (old names new : List (List ℕ)) → names ≡ old ++ names_among row k → new ≡ names ++ name_if_differs row k → new ≡ old ++ names_among row (k + 1)
unfolding names_among
named_more row k old names new so_far e =
    let one : suc k ≡ k + 1 = omega arith in
    e ∙ ap (λ (l : List (List ℕ)). l ++ name_if_differs row k) so_far ∙ append_assoc old (names_among row k) (name_if_differs row k) ∙ ap (λ n. old ++ names_among row n) one
