-- What the doings of contexts that come and go make of what a process keeps.
use Rattle.std.proofs.Common.{◌≡◌, ◌∙◌, refl, sym, ap, ap₂, subst, ℕ, ◌+◌, ◌<◌, ◌==◌, Bool, true, false, not, ◌&&◌, if◌then◌else◌, List, [], ◌∷◌, ◌++◌, length, map, take, get_or, Option, None, Some, arith, eq-eqb, true≢false}
use Rattle.std.proofs.lemmas.List.{map-append, take_more}
use Rattle.std.proofs.Math.Path.{fun_ext}
use Rattle.std.specs.Prelude.{is_some}
use Rattle.std.specs.FinMap.{get}
use Rattle.std.specs.Option.{option_map}
use Rattle.fission_ids.specs.declared.context.ContextId.{ContextId}
use Rattle.fission_ids.specs.declared.group.GroupId.{GroupId}
use Rattle.field_table.specs.declared.field.Field.{Field}
use Rattle.field_table.specs.declared.value.Value.{Value}
use Rattle.field_table.specs.Field.{initial}
use Rattle.field_table.specs.Table.{initial_table, value_in}
use Rattle.field_table.proofs.Tables.{value_in-map}
use Rattle.context_store.specs.Content.{Stored}
use Rattle.context_tree.specs.Tree.{is_held, is_missing}
use Rattle.wire_msgs.specs.declared.note.Mark.{Mark}
use Rattle.wire_msgs.specs.declared.note.Mark.TheVariants.{Done, Ignored}
use Rattle.wire_msgs.specs.declared.note.PartNote.TheVariants as notes
use Rattle.wire_msgs.specs.declared.part.DownPart.{DownPart}
use Rattle.wire_msgs.specs.declared.part.DownPart.TheVariants.{Register, Create, Discard, Kill}
use Rattle.wire_msgs.specs.declared.part.Known.{Known}
use Rattle.protocol.specs.Fold.{behind_all}
use Rattle.protocol.specs.Seen.{Seen, Doing}
use Rattle.protocol.specs.Seen.Doing.{Came, Framed, Went}
use Rattle.protocol.specs.SeenAfter.{seen_after, with_context}
use Rattle.protocol.specs.Take.{may_come, option_all, note, says}
use Rattle.content_core.specs.Content.{Kept, IsWhole, seen_of, hold_of}
use Rattle.content_core.specs.Held.{Does, DoesAll, TakesPart, HoldsMore, HoldsLess}
use Rattle.content_core.specs.declared.contexts.Contexts.{Contexts}
use Rattle.content_core.specs.declared.hold.Hold.{Hold}
use Rattle.content_core.proofs.Coming.{keeps, AreWhole, seen-put, whole-put}
use Rattle.content_core.proofs.Going.{seen-left, whole-left}

-- of what isn't held nothing is kept
pub not_stored : (p n : ℕ) (held : Contexts) (x : ContextId) → AreWhole p held n → is_held x held.tree ≡ false → get held.store x ≡ None
not_stored p n held x whole absent = by (get held.store x) (whole.there x ∙ absent)
  where
    by : (o : Option Stored) → is_some o ≡ false → o ≡ None
    by None is = refl
    by (Some s) is = absurd (true≢false is)

-- ---- a context is told

module _ (p : ℕ) (k : Known) (old new : Contexts) (n commits taken : ℕ) (running : Bool) where
  abbrev before : Kept
  before = keeps p old commits taken n running

  -- what it means that it may come
  pub record ComesFresh : Type 0 where
    pub fresh : is_held k.context old.tree ≡ false
    pub other : (k.context.creator == p + 1) ≡ false
    pub there : is_missing k.parent old.tree ≡ false

  pub comes : may_come p (seen_of before) k ≡ true → ComesFresh
  comes may =
      let parts : (is_held k.context old.tree ≡ false) × ((k.context.creator == p + 1) ≡ false) × (option_all (seen_of before).holds k.parent ≡ true) =
      by (is_held k.context old.tree) (k.context.creator == p + 1) (option_all (seen_of before).holds k.parent) may in
      record { fresh = parts.0; other = parts.1; there = above k.parent parts.2 }
    where
      by : (a b c : Bool) → (not a && not b && c) ≡ true → (a ≡ false) × (b ≡ false) × (c ≡ true)
      by false false true is = (refl, refl, refl)
      by false false false is = absurd (true≢false (sym is))
      by false true c is = absurd (true≢false (sym is))
      by true b c is = absurd (true≢false (sym is))

      above : (o : Option ContextId) → option_all (seen_of before).holds o ≡ true → is_missing o old.tree ≡ false
      above None is = refl
      above (Some q) is = ap not is

  pub does-came : may_come p (seen_of before) k ≡ true → AreWhole p old n → HoldsMore k.context k.parent (record { group = k.group; owned = k.owned }) k.fields old new
      → Does (Came k) before (keeps p new commits taken n running)
  unfolding seen_after
  does-came may whole more =
      let c : ComesFresh = comes may in
      let hold : Hold = record { group = k.group; owned = k.owned } in
      record {
        process = refl;
        taken = refl;
        seen =
            seen-put p k.context k.parent hold k.fields old new n whole more c.fresh c.there commits taken n running
            ∙ ap (λ (b : Bool). if b then with_context k.context (Some k.group) k.parent k.owned (value_in k.fields) (seen_of before) else seen_of before) (sym may);
        whole = whole-put p k.context k.parent hold k.fields old new n whole more c.fresh c.there n (omega arith) whole.few
            (λ mine. absurd (true≢false (sym (eq-eqb k.context.creator (p + 1) mine) ∙ c.other)));
      }

  -- one that may not come changes nothing
  pub does-stay : may_come p (seen_of before) k ≡ false → AreWhole p old n → Does (Came k) before before
  unfolding seen_after
  does-stay stays whole = record {
    process = refl;
    taken = refl;
    seen = ap (λ (b : Bool). if b then with_context k.context (Some k.group) k.parent k.owned (value_in k.fields) (seen_of before) else seen_of before) (sym stays);
    whole = whole;
  }

-- ---- a frame is made

-- the next frame isn't held yet
pub frame_fresh : (p n : ℕ) (held : Contexts) → AreWhole p held n → is_held (record { creator = p + 1; serial = n + 1 }) held.tree ≡ false
frame_fresh p n held whole = by (is_held (record { creator = p + 1; serial = n + 1 }) held.tree) refl
  where
    by : (b : Bool) → is_held (record { creator = p + 1; serial = n + 1 }) held.tree ≡ b → b ≡ false
    by true is = absurd (omega (arith, whole.own (record { creator = p + 1; serial = n + 1 }) is refl))
    by false is = refl

pub does-framed : (p : ℕ) (above : ContextId) (group : GroupId) (old new : Contexts) (n commits taken : ℕ) (running : Bool) → AreWhole p old n → is_held above old.tree ≡ true
    → Some group ≡ (seen_of (keeps p old commits taken n running)).group above → n < 240
    → HoldsMore (record { creator = p + 1; serial = n + 1 }) (Some above) (record { group = group; owned = true }) initial_table old new
    → Does (Framed (record { creator = p + 1; serial = n + 1 }) above) (keeps p old commits taken n running) (keeps p new commits taken (n + 1) running)
unfolding seen_after
does-framed p above group old new n commits taken running whole held is_group few more =
    let x : ContextId = record { creator = p + 1; serial = n + 1 } in
    let s : Seen = seen_of (keeps p old commits taken n running) in
    let hold : Hold = record { group = group; owned = true } in
    let there : is_missing (Some above) old.tree ≡ false = ap not held in
    record {
      process = refl;
      taken = refl;
      seen =
          seen-put p x (Some above) hold initial_table old new n whole more (frame_fresh p n old whole) there commits taken (n + 1) running
          ∙ ap₂ (λ (g : Option GroupId) (values : Field → Value). record (with_context x g (Some above) true values s) { frames_made = n + 1 })
          is_group (fun_ext (λ fld. value_in-map initial fld));
      whole = whole-put p x (Some above) hold initial_table old new n whole more (frame_fresh p n old whole) there (n + 1) (omega arith) (omega (arith, few)) (λ mine. omega arith);
    }

-- a context that is held has a group
pub grouped : (p n : ℕ) (held : Contexts) (x : ContextId) → AreWhole p held n → is_held x held.tree ≡ true → ◌≡◌ {A = Option GroupId} None (option_map (λ h. h.group) (hold_of x held.holds.entries)) → ⊥
grouped p n held x whole is none = by (hold_of x held.holds.entries) (whole.known x ∙ is) none
  where
    by : (o : Option Hold) → is_some o ≡ true → ◌≡◌ {A = Option GroupId} None (option_map (λ h. h.group) o) → ⊥
    by None some e = true≢false (sym some)
    by (Some h) some e = absurd (cc)

-- ---- contexts are told, one after the other

-- the last one of a list comes behind all before it
all_and_one : {Saying Facts : Type 0} (next : Saying → Facts → Facts) (ys : List Saying) (y : Saying) (s : Facts) → behind_all next (ys ++ y ∷ []) s ≡ next y (behind_all next ys s)
unfolding behind_all
all_and_one next [] y s = refl
all_and_one next (z ∷ ys) y s = all_and_one next ys y (next z s)

pub come-none : (old : Kept) → IsWhole old → DoesAll [] old old
unfolding behind_all
come-none old whole = record { process = refl; taken = refl; seen = refl; whole = whole }

pub come-next : (ks : List Known) (i : ℕ) (k : Known) (old now new : Kept) → i < length ks → k ≡ get_or ks i k
    → DoesAll (map Came (take i ks)) old now → Does (Came k) now new → DoesAll (map Came (take (i + 1) ks)) old new
come-next ks i k old now new within is all does =
    let p : ℕ = old.process in
    let grown : map Came (take (i + 1) ks) ≡ map Came (take i ks) ++ Came k ∷ [] =
    ap (map Came) (take_more ks i k within) ∙ map-append Came (take i ks) _ ∙ ap (λ (q : Known). map Came (take i ks) ++ Came q ∷ []) (sym is) in
    record {
      process = does.process ∙ all.process;
      taken = does.taken ∙ all.taken;
      seen =
          does.seen ∙ ap₂ (λ (q : ℕ) (s : Seen). seen_after q (Came k) s) all.process all.seen
          ∙ sym (all_and_one (seen_after p) (map Came (take i ks)) (Came k) (seen_of old))
          ∙ ap (λ (ys : List Doing). behind_all (seen_after p) ys (seen_of old)) (sym grown);
      whole = does.whole;
    }

-- ---- a context goes

pub does-went : (p : ℕ) (x : ContextId) (old new : Contexts) (n commits taken : ℕ) (running : Bool) → AreWhole p old n → HoldsLess x old new
    → Does (Went x) (keeps p old commits taken n running) (keeps p new commits taken n running)
unfolding seen_after
does-went p x old new n commits taken running whole less = record {
  process = refl;
  taken = refl;
  seen = seen-left p x old new n whole less commits taken running;
  whole = whole-left p x old new n whole less;
}

-- ---- the parts that tell of it

module _ (part : DownPart) (e : ℕ) (old new : Kept) where
  pub takes-register : (g : GroupId) (ks : List Known) → part ≡ Register g ks → DoesAll (map Came ks) old new → TakesPart part e (notes.Register g) old new
  unfolding note says
  takes-register g ks is does = subst (λ (q : DownPart). TakesPart q e (notes.Register g) old new) (sym is) (record {
    process = does.process;
    taken = does.taken;
    seen = does.seen;
    note = refl;
    whole = does.whole;
  })

  pub takes-create : (k : Known) (mark : Mark) → part ≡ Create k → Does (Came k) old new → mark ≡ (if may_come old.process (seen_of old) k then Done else Ignored)
      → TakesPart part e (notes.Create k.context mark) old new
  unfolding note says behind_all
  takes-create k mark is does mark_is = subst (λ (q : DownPart). TakesPart q e (notes.Create k.context mark) old new) (sym is) (record {
    process = does.process;
    taken = does.taken;
    seen = does.seen;
    note = ap (notes.Create k.context) mark_is;
    whole = does.whole;
  })

  pub takes-discard : (x : ContextId) → part ≡ Discard x → Does (Went x) old new → TakesPart part e (notes.Discard x) old new
  unfolding note says behind_all
  takes-discard x is does = subst (λ (q : DownPart). TakesPart q e (notes.Discard x) old new) (sym is) (record {
    process = does.process;
    taken = does.taken;
    seen = does.seen;
    note = refl;
    whole = does.whole;
  })

pub takes-kill : (part : DownPart) (e : ℕ) (old : Kept) → part ≡ Kill → IsWhole old → TakesPart part e notes.Kill old (record old { running = false })
unfolding note says behind_all seen_after
takes-kill part e old is whole = subst (λ (q : DownPart). TakesPart q e notes.Kill old (record old { running = false })) (sym is) (record {
  process = refl;
  taken = refl;
  seen = refl;
  note = refl;
  whole = whole;
})
