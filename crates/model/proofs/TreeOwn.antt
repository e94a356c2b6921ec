-- What a process does by itself keeps the rules of the trees, and it answers of them what its events tell.
use Rattle.std.proofs.Common.{◌≡◌, ◌⊎◌, inl, inr, ℕ, ◌+◌, ◌<◌, Bool, true, false, not, ◌&&◌, ◌||◌, if◌then◌else◌, Some, List, [], ◌∷◌, length, refl, ap, sym, subst, ◌∙◌, arith, eq-eqb}
use Rattle.std.specs.List.{AllByRecursion}
use Rattle.fission_ids.specs.declared.context.ContextId.{ContextId}
use Rattle.fission_ids.specs.Ids.{same_context}
use Rattle.wire_msgs.specs.declared.bundle.DownBundle.{DownBundle}
use Rattle.wire_msgs.specs.declared.bundle.UpBundle.{UpBundle}
use Rattle.wire_msgs.specs.declared.config.Config.{Config}
use Rattle.wire_msgs.specs.declared.part.UpPart.{UpPart}
use Rattle.wire_msgs.specs.declared.part.UpPart.TheVariants as ups
use Rattle.protocol.specs.Questions.{option_any}
use Rattle.protocol.specs.Seen.{Seen}
use Rattle.protocol.specs.Seen.Doing.{Framed, Went}
use Rattle.protocol.specs.SeenAfter.{seen_after}
use Rattle.traces.specs.Event.Event.{Writes}
use Rattle.traces.specs.Links.{is_ended}
use Rattle.traces.specs.Rules.{Flows}
use Rattle.traces.specs.Words.{Stage}
use Rattle.traces.specs.Words.Stage.{Coming, Held, Gone}
use Rattle.trees.specs.Children.{owns}
use Rattle.trees.specs.Look.{Handing, moved, owned_behind, Look, Begin}
use Rattle.trees.specs.Look.Effect.{Stays, Comes, Goes}
use Rattle.trees.specs.Look.Handing.{Same, Given}
use Rattle.trees.specs.Rules.{Above, Acts, OwnChild, HandsOver, is_coming, Wrote, Fits}
use Rattle.trees.specs.Words.{is_told, stage, is_held}
use Rattle.trees.proofs.Agrees.{nothing_held, told_above}
use Rattle.trees.proofs.Effects.{gone_behind, gone_before}
use Rattle.model.specs.Lines.{Making, line, above_in, is_among}
use Rattle.model.specs.Moments.{Written, ProcessEvent}
use Rattle.model.specs.Moments.Written.{Own}
use Rattle.model.specs.Trees.{comes_if, goes_if, later_hand, hand_if, parts_do, parts_make, parts_hand, parts_create, parts_need, parts_drop, tree_look, tree_begin}
use Rattle.model.proofs.Cases.{true_false, same_context_is, same_itself, same_when, some_is}
use Rattle.model.proofs.Holding.{FramedFits, SeenTies}
use Rattle.model.proofs.Lining.{Lined}
use Rattle.model.proofs.Living.{both_stays, goes_when, in_line, up_the_line, held_only}
use Rattle.model.proofs.TreeLawful.{lawful}

-- a part that is nothing of a tree
abbrev pub IsPlain : UpPart → Type 0
IsPlain (ups.Commit x t) = Unit {0}
IsPlain (ups.DropAck x) = Unit {0}
IsPlain part = ⊥

-- a context that the process could make next is neither held nor gone, but with the one above
pub record IsUnmade (c : Config) (p : ℕ) (mk : List Making) (x : ContextId) (g : List ProcessEvent) : Type 0 where
  pub unheld : stage (tree_look c p mk) (tree_begin c p mk) x g ≡ Held → ⊥
  pub with_above : stage (tree_look c p mk) (tree_begin c p mk) x g ≡ Gone → Above (tree_look c p mk) x (λ a. stage (tree_look c p mk) (tree_begin c p mk) a g ≡ Gone)

-- what the process answers of the trees is what its events tell
pub record TreeSeen (c : Config) (p : ℕ) (mk : List Making) (s : Seen) (g : List ProcessEvent) : Type 0 where
  pub fits : Fits (tree_look c p mk) (tree_begin c p mk) g
  pub stages : (x : ContextId) → is_held (stage (tree_look c p mk) (tree_begin c p mk) x g) ≡ s.holds x
  pub owners : (x : ContextId) → s.holds x ≡ true → s.owns x ≡ owns (tree_look c p mk) (tree_begin c p mk) x g
  pub unmade : (x : ContextId) → x.creator ≡ p + 1 → s.frames_made < x.serial → IsUnmade c p mk x g

module _ (c : Config) (p : ℕ) (mk : List Making) (l : Lined mk) (s : Seen) (st : SeenTies c.tabs p mk s) (g : List ProcessEvent) (runs : is_ended g ≡ false) (t : TreeSeen c p mk s g) where
  abbrev look : Look ContextId Written DownBundle
  look = tree_look c p mk

  abbrev begin : Begin ContextId
  begin = tree_begin c p mk

  -- what is held has the stage
  pub stage_held : (x : ContextId) → s.holds x ≡ true → stage (tree_look c p mk) (tree_begin c p mk) x g ≡ Held
  stage_held x e = held_only (stage look begin x g) (t.stages x ∙ e)

  -- and the process is told of it
  pub told_held : Flows g → (x : ContextId) → s.holds x ≡ true → is_told (tree_look c p mk) (tree_begin c p mk) x g ≡ true
  told_held flows x e = by_told (is_told look begin x g) refl
    where
      by_told : (v : Bool) → is_told (tree_look c p mk) (tree_begin c p mk) x g ≡ v → is_told (tree_look c p mk) (tree_begin c p mk) x g ≡ true
      by_told true told = told
      by_told false untold =
          let two : Held ≡ Coming = sym (stage_held x e) ∙ nothing_held look begin g (record { lawful = lawful c p mk l; flows = flows; fits = t.fits }) runs x untold in absurd cc

  -- ---- a write that is nothing of a tree

  plain_does : (x : ContextId) (ln : List ContextId) (parts : List UpPart) → AllByRecursion IsPlain parts → parts_do x ln parts ≡ Stays
  plain_does x ln [] plain = refl
  plain_does x ln (ups.Commit y d ∷ parts) plain = plain_does x ln parts plain.1
  plain_does x ln (ups.DropAck y ∷ parts) plain = plain_does x ln parts plain.1
  plain_does x ln (_ ∷ parts) plain = absurd plain.0

  plain_makes : (x : ContextId) (parts : List UpPart) → AllByRecursion IsPlain parts → parts_make x parts ≡ []
  plain_makes x [] plain = refl
  plain_makes x (ups.Commit y d ∷ parts) plain = plain_makes x parts plain.1
  plain_makes x (ups.DropAck y ∷ parts) plain = plain_makes x parts plain.1
  plain_makes x (_ ∷ parts) plain = absurd plain.0

  plain_hands : (x : ContextId) (parts : List UpPart) → AllByRecursion IsPlain parts → parts_hand x parts ≡ Same
  plain_hands x [] plain = refl
  plain_hands x (ups.Commit y d ∷ parts) plain = plain_hands x parts plain.1
  plain_hands x (ups.DropAck y ∷ parts) plain = plain_hands x parts plain.1
  plain_hands x (_ ∷ parts) plain = absurd plain.0

  plain_names : (x : ContextId) (parts : List UpPart) → AllByRecursion IsPlain parts → (parts_create x parts ≡ false) × (parts_need x parts ≡ false) × (parts_drop x parts ≡ false)
  plain_names x [] plain = (refl, refl, refl)
  plain_names x (ups.Commit y d ∷ parts) plain = plain_names x parts plain.1
  plain_names x (ups.DropAck y ∷ parts) plain = plain_names x parts plain.1
  plain_names x (_ ∷ parts) plain = absurd plain.0

  module _ (b : UpBundle) (plain : AllByRecursion IsPlain b.parts) where
    stays : (x : ContextId) → (tree_look c p mk).does x (Own b) ≡ Stays
    stays x = plain_does x (line x mk) b.parts plain

    same_hand : (x : ContextId) → (tree_look c p mk).hands x (Own b) ≡ Same
    same_hand x = plain_hands x b.parts plain

    plain_wrote : (x : ContextId) → Wrote (tree_look c p mk) (tree_begin c p mk) (Own b) x g
    plain_wrote x = record {
      acts = subst (Acts look begin x g) (sym (stays x)) tt;
      children = subst (AllByRecursion (OwnChild look x (Own b))) (sym (plain_makes x b.parts plain)) tt;
      hands = subst (λ a. HandsOver a (look.hands x (Own b))) (sym (stays x)) (same_hand x);
      creates = (plain_names x b.parts plain).0 ∙ sym (ap is_coming (stays x));
      needs = λ e. true_false (parts_need x b.parts) e (plain_names x b.parts plain).1;
      drops = λ e. true_false (parts_drop x b.parts) e (plain_names x b.parts plain).2;
      drops_below = λ e. true_false (parts_drop x b.parts) e (plain_names x b.parts plain).2;
      goes = λ e. let two : Stays ≡ Goes = sym (stays x) ∙ e in absurd cc;
    }

    -- what was answered is answered still
    pub wrote_plain : (s' : Seen) → ((x : ContextId) → s'.holds x ≡ s.holds x) → ((x : ContextId) → s'.owns x ≡ s.owns x) → s'.frames_made ≡ s.frames_made → TreeSeen c p mk s' (Writes (Own b) ∷ g)
    wrote_plain s' holds owning made = record {
      fits = ((λ r. plain_wrote), t.fits);
      stages = λ x. ap (λ a. is_held (moved a (stage look begin x g))) (stays x) ∙ t.stages x ∙ sym (holds x);
      owners = λ x held. owning x ∙ t.owners x (sym (holds x) ∙ held) ∙ sym (ap (λ a. owned_behind a (owns look begin x g)) (same_hand x));
      unmade = λ x own later. let u : IsUnmade c p mk x g = t.unmade x own (subst (λ n. n < x.serial) made later) in record {
        unheld = λ e. u.unheld (sym (ap (λ a. moved a (stage look begin x g)) (stays x)) ∙ e);
        with_above = λ e. still x (u.with_above (sym (ap (λ a. moved a (stage look begin x g)) (stays x)) ∙ e));
      };
    }
      where
        still : (x : ContextId) → Above (tree_look c p mk) x (λ a. stage (tree_look c p mk) (tree_begin c p mk) a g ≡ Gone) → Above (tree_look c p mk) x (λ a. stage (tree_look c p mk) (tree_begin c p mk) a (Writes (Own b) ∷ g) ≡ Gone)
        still x (a, up, gone) = (a, up, ap (λ d. moved d (stage look begin a g)) (stays a) ∙ gone)

  -- ---- a frame

  module _ (b : UpBundle) (z a : ContextId) (fits : FramedFits p mk s z a) (is : b.parts ≡ ups.Create z a ∷ []) where
    own_z : z.creator ≡ p + 1
    own_z = ap (λ (x : ContextId). x.creator) fits.next

    later_z : s.frames_made < z.serial
    later_z = omega (arith, ap (λ (x : ContextId). x.serial) fits.next)

    pub new_z : stage (tree_look c p mk) (tree_begin c p mk) z g ≡ Coming
    new_z = by_stage (stage look begin z g) refl
      where
        u : IsUnmade c p mk z g
        u = t.unmade z own_z later_z

        lost : Above (tree_look c p mk) z (λ y. stage (tree_look c p mk) (tree_begin c p mk) y g ≡ Gone) → ⊥
        lost (y, up, gone) =
            let same : a ≡ y = some_is a y (sym fits.made ∙ up) in
            let two : Held ≡ Gone = sym (stage_held a fits.held) ∙ ap (λ w. stage look begin w g) same ∙ gone in absurd cc

        by_stage : (v : Stage) → stage (tree_look c p mk) (tree_begin c p mk) z g ≡ v → stage (tree_look c p mk) (tree_begin c p mk) z g ≡ Coming
        by_stage Coming e = e
        by_stage Held e = absurd (u.unheld e)
        by_stage Gone e = absurd (lost (u.with_above e))

    does_z : (x : ContextId) → (tree_look c p mk).does x (Own b) ≡ comes_if (same_context x z)
    does_z x = ap (parts_do x (line x mk)) is ∙ both_stays (comes_if (same_context x z))

    hands_z : (x : ContextId) → (tree_look c p mk).hands x (Own b) ≡ (if same_context x z then Given else Same)
    hands_z x = ap (parts_hand x) is ∙ later_one (same_context x z)
      where
        later_one : (v : Bool) → later_hand Same (hand_if v Given) ≡ (if v then Given else Same)
        later_one true = refl
        later_one false = refl

    frame_acts : Flows g → (x : ContextId) → Acts (tree_look c p mk) (tree_begin c p mk) x g (comes_if (same_context x z))
    frame_acts flows x = by_same (same_context x z) refl
      where
        by_same : (v : Bool) → same_context x z ≡ v → Acts (tree_look c p mk) (tree_begin c p mk) x g (comes_if v)
        by_same false e = tt
        by_same true e =
            let same : x ≡ z = same_context_is x z e in record {
              told = ap (λ y. is_told look begin y g) same ∙ (told_above look begin (lawful c p mk l) z a fits.made g ∙ told_held flows a fits.held);
              own = eq-eqb x.creator (p + 1) (ap (λ (y : ContextId). y.creator) same ∙ own_z);
              new = ap (λ y. stage look begin y g) same ∙ new_z;
              below = (a, ap (above_in mk) same ∙ fits.made, stage_held a fits.held);
            }

    frame_children : (x : ContextId) → AllByRecursion (OwnChild (tree_look c p mk) x (Own b)) ((tree_look c p mk).makes x (Own b))
    frame_children x = subst (AllByRecursion (OwnChild look x (Own b))) (sym makes_is) (by_same (same_context x a) refl)
      where
        makes_is : (tree_look c p mk).makes x (Own b) ≡ (if same_context x a then z ∷ [] else [])
        makes_is = ap (parts_make x) is

        by_same : (v : Bool) → same_context x a ≡ v → AllByRecursion (OwnChild (tree_look c p mk) x (Own b)) (if v then z ∷ [] else [])
        by_same false e = tt
        by_same true e = (
          record {
            below = fits.made ∙ ap Some (sym (same_context_is x a e));
            own = eq-eqb z.creator (p + 1) own_z;
            comes = does_z z ∙ ap comes_if (same_itself z);
          },
          tt,
        )

    needs_a : (x : ContextId) → (tree_look c p mk).needs x (Own b) ≡ true → x ≡ a
    needs_a x e = same_context_is x a (only (same_context x a) (not (same_context x z)) (sym (ap (parts_need x) is) ∙ e))
      where
        only : (u v : Bool) → (u || (v && false)) ≡ true → u ≡ true
        only true v e = refl
        only false true e = absurd cc
        only false false e = absurd cc

    drops_none : (x : ContextId) → (tree_look c p mk).drops x (Own b) ≡ true → {A : Type 0} → A
    drops_none x e = true_false (parts_drop x b.parts) e (ap (parts_drop x) is)

    frame_wrote : Flows g → (x : ContextId) → Wrote (tree_look c p mk) (tree_begin c p mk) (Own b) x g
    frame_wrote flows x = record {
      acts = subst (Acts look begin x g) (sym (does_z x)) (frame_acts flows x);
      children = frame_children x;
      hands = subst (λ d. HandsOver d (look.hands x (Own b))) (sym (does_z x)) (by_same (same_context x z) (hands_z x));
      creates = creates_is;
      needs = λ e. ap (λ y. stage look begin y g) (needs_a x e) ∙ stage_held a fits.held;
      drops = λ e. drops_none x e;
      drops_below = λ e. drops_none x e;
      goes = λ e. never (same_context x z) (sym (does_z x) ∙ e);
    }
      where
        never : (v : Bool) {A : Type 0} → comes_if v ≡ Goes → A
        never true e = absurd cc
        never false e = absurd cc

        by_same : (v : Bool) {hand : Handing} → hand ≡ (if v then Given else Same) → HandsOver (comes_if v) hand
        by_same true e = e
        by_same false e = e

        or_none : (v : Bool) → (v || false) ≡ is_coming (comes_if v)
        or_none true = refl
        or_none false = refl

        creates_is : (tree_look c p mk).creates x (Own b) ≡ is_coming ((tree_look c p mk).does x (Own b))
        creates_is = ap (parts_create x) is ∙ or_none (same_context x z) ∙ sym (ap is_coming (does_z x))

    pub wrote_frame : Flows g → TreeSeen c p mk (seen_after p (Framed z a) s) (Writes (Own b) ∷ g)
    unfolding seen_after
    wrote_frame flows = record {
      fits = ((λ r. frame_wrote flows), t.fits);
      stages = λ x. ap (λ d. is_held (moved d (stage look begin x g))) (does_z x) ∙ by_stage x (same_context x z) refl;
      owners = λ x held. by_owner x (same_context x z) refl held ∙ sym (ap (λ d. owned_behind d (owns look begin x g)) (hands_z x));
      unmade = λ x own later. by_unmade x own later;
    }
      where
        by_stage : (x : ContextId) → (v : Bool) → same_context x z ≡ v → is_held (moved (comes_if v) (stage (tree_look c p mk) (tree_begin c p mk) x g)) ≡ (if v then true else s.holds x)
        by_stage x true e = ap (λ w. is_held (moved Comes w)) (ap (λ y. stage look begin y g) (same_context_is x z e) ∙ new_z)
        by_stage x false e = t.stages x

        by_owner : (x : ContextId) → (v : Bool) → same_context x z ≡ v → (if v then true else s.holds x) ≡ true
            → (if v then true else s.owns x) ≡ owned_behind (if v then Given else Same) (owns (tree_look c p mk) (tree_begin c p mk) x g)
        by_owner x true e held = refl
        by_owner x false e held = t.owners x held

        by_unmade : (x : ContextId) → x.creator ≡ p + 1 → s.frames_made + 1 < x.serial → IsUnmade c p mk x (Writes (Own b) ∷ g)
        by_unmade x own later = let u : IsUnmade c p mk x g = t.unmade x own (omega (arith, later)) in record {
          unheld = λ e. u.unheld (sym same_stage ∙ e);
          with_above = λ e. still (u.with_above (sym same_stage ∙ e));
        }
          where
            other : same_context x z ≡ false
            other = by_test (same_context x z) refl
              where
                by_test : (v : Bool) → same_context x z ≡ v → same_context x z ≡ false
                by_test false e = e
                by_test true e = absurd (omega (arith, later, ap (λ (y : ContextId). y.serial) (same_context_is x z e), ap (λ (y : ContextId). y.serial) fits.next))

            same_stage : stage (tree_look c p mk) (tree_begin c p mk) x (Writes (Own b) ∷ g) ≡ stage (tree_look c p mk) (tree_begin c p mk) x g
            same_stage = ap (λ d. moved d (stage look begin x g)) (does_z x ∙ ap comes_if other)

            still : Above (tree_look c p mk) x (λ y. stage (tree_look c p mk) (tree_begin c p mk) y g ≡ Gone) → Above (tree_look c p mk) x (λ y. stage (tree_look c p mk) (tree_begin c p mk) y (Writes (Own b) ∷ g) ≡ Gone)
            still (y, up, gone) = (y, up, gone_behind (look.does y (Own b)) (stage look begin y g) gone)

  -- ---- a drop

  module _ (b : UpBundle) (y : ContextId) (held_y : s.holds y ≡ true) (owned_above : option_any s.owns (s.above y) ≡ true) (is : b.parts ≡ ups.Drop y ∷ []) where
    does_y : (x : ContextId) → (tree_look c p mk).does x (Own b) ≡ goes_if (is_among y (line x mk))
    does_y x = ap (parts_do x (line x mk)) is ∙ both_stays (goes_if (is_among y (line x mk)))

    hands_y : (x : ContextId) → (tree_look c p mk).hands x (Own b) ≡ Same
    hands_y x = ap (parts_hand x) is

    -- the process is told of all that is below it
    told_below_y : Flows g → (x : ContextId) → is_among y (line x mk) ≡ true → is_told (tree_look c p mk) (tree_begin c p mk) x g ≡ true
    told_below_y flows x among =
        let same : is_told (tree_look c p mk) (tree_begin c p mk) y g ≡ is_told (tree_look c p mk) (tree_begin c p mk) x g =
        up_the_line mk (λ w. is_told look begin w g ≡ is_told look begin x g) l (λ w a so up. sym (told_above look begin (lawful c p mk l) w a up g) ∙ so) (length (line x mk)) y x (omega arith) refl among in
        sym same ∙ told_held flows y held_y

    drop_wrote : Flows g → (x : ContextId) → Wrote (tree_look c p mk) (tree_begin c p mk) (Own b) x g
    drop_wrote flows x = record {
      acts = subst (Acts look begin x g) (sym (does_y x)) (by_acts (is_among y (line x mk)) refl);
      children = subst (AllByRecursion (OwnChild look x (Own b))) (sym (ap (parts_make x) is)) tt;
      hands = subst (λ d. HandsOver d (look.hands x (Own b))) (sym (does_y x)) (by_hand (is_among y (line x mk)));
      creates = ap (parts_create x) is ∙ sym (ap is_coming (does_y x) ∙ never_comes (is_among y (line x mk)));
      needs = λ e. ap (λ w. stage look begin w g) (named_need e) ∙ stage_held y held_y;
      drops = λ e. ap (λ w. stage look begin w g) (named_drop e) ∙ stage_held y held_y;
      drops_below = λ e a up. owner_above (named_drop e) a up;
      goes = λ e. by_place (in_line mk l y x (goes_when (is_among y (line x mk)) (sym (does_y x) ∙ e)));
    }
      where
        by_acts : (v : Bool) → is_among y (line x mk) ≡ v → Acts (tree_look c p mk) (tree_begin c p mk) x g (goes_if v)
        by_acts true among = told_below_y flows x among
        by_acts false among = tt

        by_hand : (v : Bool) → HandsOver (goes_if v) ((tree_look c p mk).hands x (Own b))
        by_hand true = hands_y x
        by_hand false = hands_y x

        never_comes : (v : Bool) → is_coming (goes_if v) ≡ false
        never_comes true = refl
        never_comes false = refl

        or_false : (v : Bool) → (v || false) ≡ true → v ≡ true
        or_false true e = refl
        or_false false e = absurd cc

        named_need : (tree_look c p mk).needs x (Own b) ≡ true → x ≡ y
        named_need e = same_context_is x y (or_false (same_context x y) (sym (ap (parts_need x) is) ∙ e))

        named_drop : (tree_look c p mk).drops x (Own b) ≡ true → x ≡ y
        named_drop e = same_context_is x y (or_false (same_context x y) (sym (ap (parts_drop x) is) ∙ e))

        owner_above : x ≡ y → (a : ContextId) → above_in mk x ≡ Some a → owns (tree_look c p mk) (tree_begin c p mk) a g ≡ true
        owner_above same a up =
            let up_y : above_in mk y ≡ Some a = ap (above_in mk) (sym same) ∙ up in
            let held_a : s.holds a ≡ true = st.above_held y a held_y up_y in
            sym (t.owners a held_a) ∙ sym (ap (option_any s.owns) (st.held_above y held_y ∙ up_y)) ∙ owned_above

        by_place : (y ≡ x) ⊎ ((a : ContextId) × (above_in mk x ≡ Some a) × (is_among y (line a mk) ≡ true)) → ((tree_look c p mk).drops x (Own b) ≡ true) ⊎ Above (tree_look c p mk) x (λ a. (tree_look c p mk).does a (Own b) ≡ Goes)
        by_place (inl same) = inl (ap (parts_drop x) is ∙ ap (λ v. v || false) (same_when x y (sym same)))
        by_place (inr (a, up, more)) = inr (a, up, does_y a ∙ ap goes_if more)

    pub wrote_drop : Flows g → TreeSeen c p mk (seen_after p (Went y) s) (Writes (Own b) ∷ g)
    unfolding seen_after
    wrote_drop flows = record {
      fits = ((λ r. drop_wrote flows), t.fits);
      stages = λ x. ap (λ d. is_held (moved d (stage look begin x g))) (does_y x) ∙ by_held x (s.holds x) refl;
      owners = λ x held. ap (λ (u : Bool). if u then false else s.owns x) (left x held).0 ∙ t.owners x (left x held).1 ∙ sym (ap (λ d. owned_behind d (owns look begin x g)) (hands_y x));
      unmade = λ x own later. by_unmade x own later (t.unmade x own later);
    }
      where
        left_by : (u v : Bool) → (if u then false else v) ≡ true → (u ≡ false) × (v ≡ true)
        left_by true v e = absurd cc
        left_by false v e = (refl, e)

        left : (x : ContextId) → (if s.under x y then false else s.holds x) ≡ true → (s.under x y ≡ false) × (s.holds x ≡ true)
        left x e = left_by (s.under x y) (s.holds x) e

        still_unheld : (d : Bool) (v : Stage) → is_held v ≡ false → is_held (moved (goes_if d) v) ≡ false
        still_unheld true v e = refl
        still_unheld false v e = e

        by_line : (x : ContextId) → (d : Bool) → is_held (moved (goes_if d) (stage (tree_look c p mk) (tree_begin c p mk) x g)) ≡ (if d then false else s.holds x)
        by_line x true = refl
        by_line x false = t.stages x

        by_held : (x : ContextId) → (v : Bool) → s.holds x ≡ v → is_held (moved (goes_if (is_among y (line x mk))) (stage (tree_look c p mk) (tree_begin c p mk) x g)) ≡ (if s.under x y then false else s.holds x)
        by_held x true on = by_line x (is_among y (line x mk)) ∙ ap (λ (u : Bool). if u then false else s.holds x) (sym (st.held_under x y on))
        by_held x false off = still_unheld (is_among y (line x mk)) (stage look begin x g) (t.stages x ∙ off) ∙ sym (ap (λ (u : Bool). if u then false else s.holds x) (st.unheld_under x y off) ∙ off)

        by_unmade : (x : ContextId) → x.creator ≡ p + 1 → s.frames_made < x.serial → IsUnmade c p mk x g → IsUnmade c p mk x (Writes (Own b) ∷ g)
        by_unmade x own later u = record {
          unheld = λ e. unheld_by (is_among y (line x mk)) (stage look begin x g) u.unheld (sym (ap (λ d. moved d (stage look begin x g)) (does_y x)) ∙ e);
          with_above = λ e. by_gone (gone_before (look.does x (Own b)) (stage look begin x g) e);
        }
          where
            unheld_by : (d : Bool) (v : Stage) → (v ≡ Held → ⊥) → moved (goes_if d) v ≡ Held → ⊥
            unheld_by true v unheld e = absurd cc
            unheld_by false v unheld e = unheld e

            still : Above (tree_look c p mk) x (λ w. stage (tree_look c p mk) (tree_begin c p mk) w g ≡ Gone) → Above (tree_look c p mk) x (λ w. stage (tree_look c p mk) (tree_begin c p mk) w (Writes (Own b) ∷ g) ≡ Gone)
            still (w, up, gone) = (w, up, gone_behind (look.does w (Own b)) (stage look begin w g) gone)

            by_place : (y ≡ x) ⊎ ((a : ContextId) × (above_in mk x ≡ Some a) × (is_among y (line a mk) ≡ true)) → Above (tree_look c p mk) x (λ w. stage (tree_look c p mk) (tree_begin c p mk) w (Writes (Own b) ∷ g) ≡ Gone)
            by_place (inl same) = absurd (omega (arith, later, st.held_own x (ap s.holds (sym same) ∙ held_y) own))
            by_place (inr (a, up, more)) = (a, up, ap (λ d. moved d (stage look begin a g)) (does_y a ∙ ap goes_if more))

            by_gone : (stage (tree_look c p mk) (tree_begin c p mk) x g ≡ Gone) ⊎ ((tree_look c p mk).does x (Own b) ≡ Goes) → Above (tree_look c p mk) x (λ w. stage (tree_look c p mk) (tree_begin c p mk) w (Writes (Own b) ∷ g) ≡ Gone)
            by_gone (inl was) = still (u.with_above was)
            by_gone (inr goes) = by_place (in_line mk l y x (goes_when (is_among y (line x mk)) (sym (does_y x) ∙ goes)))
