-- The worked run keeps the rules.
use Rattle.std.proofs.Common.{◌≡◌, ◌⊎◌, inl, inr, true, false, Some, List, [], ◌∷◌, refl, sym, subst}
use Rattle.std.specs.List.{AllByRecursion}
use Rattle.traces.specs.Event.{Event}
use Rattle.traces.specs.Event.Event.{Writes, Sends, Reverts}
use Rattle.traces.specs.Words.Stage.{Coming, Held, Gone}
use Rattle.trees.specs.Words.{life}
use Rattle.trees.specs.Children.{owned}
use Rattle.trees.specs.Look.Effect.{Stays, Goes}
use Rattle.trees.specs.Look.Handing.{Same}
use Rattle.trees.specs.Rules.{Lawful, Wrote, OtherChild, DoneByOthers, Tells, GivesBack}
use Rattle.trees.specs.Runs.{Context, Change, look, begin, bundle, WorkedRun}
use Rattle.trees.specs.Runs.Context.{Tab, Frame, Other}
use Rattle.trees.specs.Runs.Change.{MakesFrame, RemovesFrame, HandsTabOver, MakesOther}

-- only the tab has anything below it
below_tab : (x y : Context) → look.above x ≡ Some y → y ≡ Tab
below_tab Tab y e = absurd cc
below_tab Frame Tab e = refl
below_tab Frame Frame e = absurd cc
below_tab Frame Other e = absurd cc
below_tab Other Tab e = refl
below_tab Other Frame e = absurd cc
below_tab Other Other e = absurd cc

-- and that stays
tab_stays : (w : Change) → look.does Tab w ≡ Goes → ⊥
tab_stays MakesFrame e = absurd cc
tab_stays RemovesFrame e = absurd cc
tab_stays HandsTabOver e = absurd cc
tab_stays MakesOther e = absurd cc

stays_above : (x y : Context) (w : Change) → look.above x ≡ Some y → look.does y w ≡ Goes → look.does x w ≡ Goes
stays_above x y w is e = absurd (tab_stays w (subst (λ y. look.does y w ≡ Goes) (below_tab x y is) e))

new_below : (x y : Context) → look.above x ≡ Some y → begin.life x ≡ Coming
new_below Tab y e = absurd cc
new_below Frame y e = refl
new_below Other y e = refl

new_own : (x : Context) → look.is_own x ≡ true → begin.life x ≡ Coming
new_own Tab e = absurd cc
new_own Frame e = refl
new_own Other e = refl

alive : (x : Context) → begin.life x ≡ Gone → ⊥
alive Tab e = absurd cc
alive Frame e = absurd cc
alive Other e = absurd cc

same_start : (x : Context) → begin.stage x ≡ begin.life x
same_start x = refl

created_moves : (x : Context) (w : Change) → look.creates x w ≡ true → look.does x w ≡ Stays → ⊥
created_moves Frame MakesFrame c e = absurd cc
created_moves Other MakesOther c e = absurd cc
created_moves Tab MakesFrame c e = absurd cc
created_moves Tab RemovesFrame c e = absurd cc
created_moves Tab HandsTabOver c e = absurd cc
created_moves Tab MakesOther c e = absurd cc
created_moves Frame RemovesFrame c e = absurd cc
created_moves Frame HandsTabOver c e = absurd cc
created_moves Frame MakesOther c e = absurd cc
created_moves Other MakesFrame c e = absurd cc
created_moves Other RemovesFrame c e = absurd cc
created_moves Other HandsTabOver c e = absurd cc

lawful : Lawful look begin
lawful = record {
  does_below = stays_above;
  tells_below = stays_above;
  creates_moves = created_moves;
  told_below = λ x y is. refl;
  registers_below = λ x y c is. refl;
  has_live = λ x e. same_start x;
  has_nothing = λ x e. absurd cc;
  none_gone = alive;
  none_own = new_own;
  none_below = new_below;
}

wrote : (x : Context) → Wrote look begin MakesFrame x []
wrote Tab = record { acts = tt; children = (record { below = refl; own = refl; comes = refl }, tt); hands = refl; creates = refl; needs = λ e. refl; drops = λ e. absurd cc; drops_below = λ e y is. absurd cc; goes = λ e. absurd cc }
wrote Frame = record { acts = record { told = refl; own = refl; new = refl; below = (Tab, refl, refl) }; children = tt; hands = refl; creates = refl; needs = λ e. absurd cc; drops = λ e. absurd cc; drops_below = λ e y is. absurd cc; goes = λ e. absurd cc }
wrote Other = record { acts = tt; children = tt; hands = refl; creates = refl; needs = λ e. absurd cc; drops = λ e. absurd cc; drops_below = λ e y is. absurd cc; goes = λ e. absurd cc }

-- the tab is handed over; the frame isn't known yet
stays_done : (e : Event Change Change) (u : Change) (x : Context) (h : List (Event Change Change)) → look.does x u ≡ Stays →
    ((y : Context) → look.above x ≡ Some y → (look.hands y u ≡ Same) ⊎ (life look begin x h ≡ Held → life look begin x (e ∷ h) ≡ Held → ⊥)) → AllByRecursion (OtherChild look x) (look.makes x u) → look.creates x u ≡ false → DoneByOthers look begin e u x h
stays_done e u x h stays cleared children other = record {
  done = record { new = λ is. absurd cc; with_above = λ is own new. absurd cc; below_live = λ is y above. absurd cc; by_owner = λ is y above. absurd cc; cleared = cleared };
  by_others = λ is. absurd cc;
  owned = λ is same. absurd cc;
  creates = λ is. absurd cc;
  creates_others = λ is. absurd cc;
  children = children;
}

handed_over : (x : Context) → Tells look begin (Sends 1 HandsTabOver HandsTabOver) HandsTabOver HandsTabOver x (Writes MakesFrame ∷ [])
handed_over Tab = record {
  done = stays_done (Sends 1 HandsTabOver HandsTabOver) HandsTabOver Tab (Writes MakesFrame ∷ []) refl (λ y is. absurd cc) tt refl;
  told = refl;
  brought = refl;
  others = tt;
  handed = λ e. refl;
  only_live = inr refl;
}
handed_over Frame = record {
  done = stays_done (Sends 1 HandsTabOver HandsTabOver) HandsTabOver Frame (Writes MakesFrame ∷ []) refl (λ y is. inr (λ was e. absurd cc)) tt refl;
  told = refl;
  brought = refl;
  others = tt;
  handed = λ e. refl;
  only_live = inl refl;
}
handed_over Other = record {
  done = stays_done (Sends 1 HandsTabOver HandsTabOver) HandsTabOver Other (Writes MakesFrame ∷ []) refl (λ y is. inr (λ was e. absurd cc)) tt refl;
  told = refl;
  brought = refl;
  others = tt;
  handed = λ e. refl;
  only_live = inl refl;
}

sent_back : (x : Context) → GivesBack look begin MakesFrame RemovesFrame x (Sends 1 HandsTabOver HandsTabOver ∷ Writes MakesFrame ∷ [])
sent_back Tab = record { returned = λ e. absurd cc; with_above = λ e own new. absurd cc; untold = λ e. refl; brings_none = refl; hands_none = refl }
sent_back Frame = record { returned = refl; with_above = λ e own new. inl refl; untold = λ e. absurd cc; brings_none = refl; hands_none = refl }
sent_back Other = record { returned = λ e. absurd cc; with_above = λ e own new. absurd cc; untold = λ e. refl; brings_none = refl; hands_none = refl }

abbrev before : List (Event Change Change)
before = Reverts 2 MakesFrame RemovesFrame ∷ Sends 1 HandsTabOver HandsTabOver ∷ Writes MakesFrame ∷ []

tab_kept : (x y : Context) → look.above x ≡ Some y → look.hands y MakesOther ≡ Same
tab_kept x y is = subst (λ y. look.hands y MakesOther ≡ Same) (sym (below_tab x y is)) refl

others_own : (y : Context) → look.above Other ≡ Some y → false ≡ owned look begin y (Sends 3 MakesOther MakesOther ∷ before)
others_own y is = subst (λ y. false ≡ owned look begin y (Sends 3 MakesOther MakesOther ∷ before)) (sym (below_tab Other y is)) refl

tab_live : (y : Context) → look.above Other ≡ Some y → life look begin y (Sends 3 MakesOther MakesOther ∷ before) ≡ Held
tab_live y is = subst (λ y. life look begin y (Sends 3 MakesOther MakesOther ∷ before) ≡ Held) (sym (below_tab Other y is)) refl

other_made : (x : Context) → Tells look begin (Sends 3 MakesOther MakesOther) MakesOther MakesOther x before
other_made Tab = record {
  done = stays_done (Sends 3 MakesOther MakesOther) MakesOther Tab before refl (λ y is. absurd cc) (record { below = refl; other = refl }, tt) refl;
  told = refl;
  brought = refl;
  others = (record { below = refl; other = refl }, tt);
  handed = λ e. refl;
  only_live = inl refl;
}
other_made Frame = record {
  done = stays_done (Sends 3 MakesOther MakesOther) MakesOther Frame before refl (λ y is. inl (tab_kept Frame y is)) tt refl;
  told = refl;
  brought = refl;
  others = tt;
  handed = λ e. refl;
  only_live = inl refl;
}
other_made Other = record {
  done = record {
    done = record { new = λ e. refl; with_above = λ e own new. absurd cc; below_live = λ e. tab_live; by_owner = λ e. others_own; cleared = λ y is. inl (tab_kept Other y is) };
    by_others = λ e. refl;
    owned = λ e same. absurd cc;
    creates = λ e. refl;
    creates_others = λ e. refl;
    children = tt;
  };
  told = refl;
  brought = refl;
  others = tt;
  handed = λ e. refl;
  only_live = inr refl;
}

pub worked_run : WorkedRun
worked_run = record {
  keeps = record {
    lawful = lawful;
    flows = (
      record { rest = []; is = refl },
      (
        record { rest = bundle MakesOther ∷ []; is = refl },
        (
          record { rest = bundle RemovesFrame ∷ bundle MakesOther ∷ []; is = refl },
          (refl, (record { first = record { rest = []; is = refl }; alive = refl }, (refl, (tt, tt)))),
        ),
      ),
    );
    fits = (λ e. tt, (λ e. tt, (λ e. tt, (λ e. other_made, (λ e. sent_back, (λ e. handed_over, (λ e. wrote, tt)))))));
  };
  held = refl;
  live = refl;
  owns = refl;
  owned = refl;
}
