-- Runs of operations, one after the other.
use Rattle.std.proofs.Common.{◌≡◌, ◌∙◌, refl, sym, ap, ap₂, ℕ, ◌≤◌, List, [], ◌∷◌, ◌++◌, length, take, arith, length-append, append_assoc}
use Rattle.std.specs.Prelude.{Result, Ok, Err, OnErr}
use Rattle.context_store.specs.declared.ops.StoreOp.{StoreOp}
use Rattle.context_store.specs.declared.ops.StoreReply.{StoreReply}
use Rattle.context_store.specs.Content.{Content}
use Rattle.context_store.specs.Ops.{content_after, content_behind, replies, reply_to}

content_after-push : (ops : List StoreOp) (op : StoreOp) (m : Content) → content_after (ops ++ op ∷ []) m ≡ content_behind op (content_after ops m)
content_after-push [] op m = refl
content_after-push (o ∷ ops) op m = content_after-push ops op (content_behind o m)

replies-push : (ops : List StoreOp) (op : StoreOp) (m : Content) → replies (ops ++ op ∷ []) m ≡ replies ops m ++ reply_to op (content_after ops m) ∷ []
replies-push [] op m = refl
replies-push (o ∷ ops) op m = ap (λ (rs : List StoreReply). reply_to o m ∷ rs) (replies-push ops op (content_behind o m))

-- the content after one operation more
pub content-more : (ops : List StoreOp) (op : StoreOp) (m old new : Content) → old ≡ content_after ops m → new ≡ content_behind op old → new ≡ content_after (ops ++ op ∷ []) m
content-more ops op m old new so_far step = step ∙ ap (content_behind op) so_far ∙ sym (content_after-push ops op m)

-- the answers with one more
pub replies-more : (ops : List StoreOp) (op : StoreOp) (m old : Content) (rs new : List StoreReply) (r : StoreReply) → old ≡ content_after ops m → rs ≡ replies ops m
    → r ≡ reply_to op old → new ≡ rs ++ r ∷ [] → new ≡ replies (ops ++ op ∷ []) m
replies-more ops op m old rs new r so_far before answer push =
    push
    ∙ ap₂ (λ (l : List StoreReply) (x : StoreReply). l ++ x ∷ []) before (answer ∙ ap (reply_to op) so_far)
    ∙ sym (replies-push ops op m)

take_front : {A : Type 0} (xs ys : List A) → take (length xs) (xs ++ ys) ≡ xs
take_front [] ys = refl
take_front {A} (x ∷ xs) ys = ap (λ (l : List A). x ∷ l) (take_front xs ys)

-- where the run stops, the first of the operations are done
pub stopped : (done rest ops : List StoreOp) (m now : Content) → done ++ rest ≡ ops → now ≡ content_after done m
    → (n : ℕ) × (n ≤ length ops) × (now ≡ content_after (take n ops) m)
stopped done rest ops m now whole is = (
  length done,
  omega (arith, ap length whole, length-append done rest),
  is ∙ ap (λ (l : List StoreOp). content_after l m) (sym (take_front done rest) ∙ ap (take (length done)) whole),
)

-- one operation more is done
pub whole-more : (done : List StoreOp) (op : StoreOp) (before rest ops : List StoreOp) → done ++ before ≡ ops → before ≡ op ∷ rest → (done ++ op ∷ []) ++ rest ≡ ops
whole-more done op before rest ops whole next = append_assoc done (op ∷ []) rest ∙ ap (λ (l : List StoreOp). done ++ l) (sym next) ∙ whole

-- what holds holds of an error too
pub OnErr-of : {A E P : Type 0} → (r : Result A E) → P → OnErr r P
OnErr-of (Ok x) p = tt
OnErr-of (Err e) p = p
