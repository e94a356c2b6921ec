-- The lines of a report, as a loop over them passes them on.
use Rattle.std.proofs.Common.{◌≡◌, ℕ, ◌+◌, ◌<◌, ◌≤◌, List, [], ◌∷◌, ◌++◌, length, drop, get_or, Result, Ok, Err, IsErr, Option, sym, ap, subst, ◌∙◌, append_assoc}
use Rattle.std.specs.List.{AllByRecursion}
use Rattle.std.proofs.lemmas.List.{drop_more, drop_all}
use Rattle.field_rules.specs.Bounds.{Bounds}
use Rattle.edge.specs.Pieces.{Begins, BeginsTo}
use Rattle.scenario.specs.declared.line.Line.{Line}
use Rattle.wire_msgs.specs.declared.config.Config.{Config}
use Rattle.scenario.specs.Fits.{LineFits}
use Rattle.model.specs.Next.{Run}
use Rattle.report.specs.Passing.{Passes}
use Rattle.report.specs.Report.{line_text, body_text, end_text, played_text, run_after_line, run_at_end}
use Rattle.report.proofs.Gathered.{begins_on, begins_in, none_to_come}

-- an item of a list, and what is left behind it
drop_item : {X : Type 0} (i : ℕ) (xs : List X) (x : X) → i < length xs → x ≡ get_or xs i x → drop i xs ≡ x ∷ drop (i + 1) xs
drop_item {X} i xs x lt is = drop_more xs i x lt ∙ ap (λ (y : X). y ∷ drop (i + 1) xs) (sym is)

module _ (b : Bounds) where
  body_text-drop : (n i : ℕ) (r : Run) (ls : List Line) (l : Line) → i < length ls → l ≡ get_or ls i l
      → body_text b n r (drop i ls) ≡ line_text b n r l ++ body_text b (n + 1) (run_after_line b r l) (drop (i + 1) ls)
  unfolding body_text
  body_text-drop n i r ls l lt is = ap (body_text b n r) (drop_item i ls l lt is)

  body_text-end : (n i : ℕ) (r : Run) (ls : List Line) → length ls ≤ i → body_text b n r (drop i ls) ≡ []
  unfolding body_text
  body_text-end n i r ls le = ap (body_text b n r) (drop_all i ls le)

  -- a line is the next text to come
  line_to_come : (n i : ℕ) (r : Run) (ls : List Line) (l : Line) (kept text : List ℕ) (old mid : Option (List ℕ)) → i < length ls → l ≡ get_or ls i l
      → BeginsTo (kept ++ body_text b n r (drop i ls)) old mid text → BeginsTo (kept ++ (line_text b n r l ++ body_text b (n + 1) (run_after_line b r l) (drop (i + 1) ls))) old mid text
  line_to_come n i r ls l kept text old mid lt is so_far =
      let P : List ℕ → Type 0 = λ x. BeginsTo (kept ++ x) old mid text in
      subst P (body_text-drop n i r ls l lt is) so_far

  -- a fault within a line
  pub line_begun : {T E : Type 0} (result : Result T E) (n i : ℕ) (r : Run) (ls : List Line) (l : Line) (kept rest text : List ℕ) (old mid new : Option (List ℕ)) → IsErr result
      → i < length ls → l ≡ get_or ls i l → BeginsTo (kept ++ body_text b n r (drop i ls)) old mid text → Begins mid new (kept ++ line_text b n r l) → Passes text rest old new result
  line_begun (Ok x) n i r ls l kept rest text old mid new err lt is so_far begun = cc
  line_begun (Err x) n i r ls l kept rest text old mid new err lt is so_far begun =
      begins_in kept (line_text b n r l) (body_text b (n + 1) (run_after_line b r l) (drop (i + 1) ls)) text old mid new (line_to_come n i r ls l kept text old mid lt is so_far) begun

  -- a line was passed on
  pub line_passed : (n i : ℕ) (r w : Run) (ls : List Line) (l : Line) (kept kept' text : List ℕ) (old mid new : Option (List ℕ)) → i < length ls → l ≡ get_or ls i l → w ≡ run_after_line b r l
      → BeginsTo (kept ++ body_text b n r (drop i ls)) old mid text → BeginsTo kept' mid new (kept ++ line_text b n r l) → BeginsTo (kept' ++ body_text b (n + 1) w (drop (i + 1) ls)) old new text
  line_passed n i r w ls l kept kept' text old mid new lt is next so_far passed =
      let Q : Run → Type 0 = λ x. BeginsTo (kept' ++ body_text b (n + 1) x (drop (i + 1) ls)) old new text in
      subst Q (sym next) (begins_on kept kept' (line_text b n r l) (body_text b (n + 1) (run_after_line b r l) (drop (i + 1) ls)) text old mid new (line_to_come n i r ls l kept text old mid lt is so_far) passed)

  -- all the lines were passed on
  pub lines_passed : (n i : ℕ) (r : Run) (ls : List Line) (kept text : List ℕ) (old new : Option (List ℕ)) → length ls ≤ i → BeginsTo (kept ++ body_text b n r (drop i ls)) old new text → BeginsTo kept old new text
  lines_passed n i r ls kept text old new le so_far = none_to_come kept (body_text b n r (drop i ls)) text old new (body_text-end n i r ls le) so_far

  -- what is gathered first, the lines, and the end
  pub played_parts : (before : List ℕ) (w start : Run) (ls : List Line) → w ≡ start → before ++ played_text b start ls ≡ (before ++ body_text b 1 w ls) ++ end_text (length (run_at_end b start ls).journal)
  played_parts before w start ls e =
      sym (append_assoc before (body_text b 1 start ls) (end_text (length (run_at_end b start ls).journal))) ∙ ap (λ (r : Run). (before ++ body_text b 1 r ls) ++ end_text (length (run_at_end b start ls).journal)) (sym e)

  -- the end of the lines is that of the run
  pub end_of_run : (v w start : Run) (ls : List Line) → v ≡ run_at_end b w ls → w ≡ start → end_text (length v.journal) ≡ end_text (length (run_at_end b start ls).journal)
  end_of_run v w start ls e f = ap (λ (r : Run). end_text (length r.journal)) (e ∙ ap (λ (r : Run). run_at_end b r ls) f)

  pub run_at_end-next : (i : ℕ) (r w end : Run) (ls : List Line) (l : Line) → i < length ls → l ≡ get_or ls i l → w ≡ run_after_line b r l → run_at_end b r (drop i ls) ≡ end → run_at_end b w (drop (i + 1) ls) ≡ end
  unfolding run_at_end
  run_at_end-next i r w end ls l lt is next run = ap (λ (x : Run). run_at_end b x (drop (i + 1) ls)) next ∙ sym (ap (run_at_end b r) (drop_item i ls l lt is)) ∙ run

  pub run_at_end-last : (i : ℕ) (r end : Run) (ls : List Line) → length ls ≤ i → run_at_end b r (drop i ls) ≡ end → r ≡ end
  unfolding run_at_end
  run_at_end-last i r end ls le run = sym (ap (run_at_end b r) (drop_all i ls le)) ∙ run

-- a line fits, and so do those behind it
pub fits-here : (i n : ℕ) (ls : List Line) (l : Line) → i < length ls → l ≡ get_or ls i l → AllByRecursion (LineFits n) (drop i ls) → LineFits n l
fits-here i n ls l lt is fits =
    let P : List Line → Type 0 = λ x. AllByRecursion (LineFits n) x in
    let here : AllByRecursion (LineFits n) (l ∷ drop (i + 1) ls) = subst P (drop_item i ls l lt is) fits in
    here.0

pub fits-next : (i : ℕ) (r w : Run) (ls : List Line) (l : Line) → i < length ls → l ≡ get_or ls i l → w.config ≡ r.config
    → AllByRecursion (LineFits (length r.config.types)) (drop i ls) → AllByRecursion (LineFits (length w.config.types)) (drop (i + 1) ls)
fits-next i r w ls l lt is config fits =
    let P : List Line → Type 0 = λ x. AllByRecursion (LineFits (length r.config.types)) x in
    let here : AllByRecursion (LineFits (length r.config.types)) (l ∷ drop (i + 1) ls) = subst P (drop_item i ls l lt is) fits in
    let Q : ℕ → Type 0 = λ n. AllByRecursion (LineFits n) (drop (i + 1) ls) in
    subst Q (sym (ap (λ (c : Config). length c.types) config)) here.1
