-- What a process is without, of what is live in the parent, is on its way, and its owner with it.
use Rattle.std.proofs.Common.{◌≡◌, ◌⊎◌, inl, inr, ◌+◌, Bool, true, false, List, [], ◌∷◌, refl, ap, sym, subst, ◌∙◌}
use Rattle.std.specs.List.{AllByRecursion}
use Rattle.traces.specs.Event.{Bundle, Event}
use Rattle.traces.specs.Event.Event.{Sends, Reverts, Ends}
use Rattle.traces.specs.Links.{hears, takes, bundles_sent, bundles_waiting, is_ended}
use Rattle.traces.specs.Words.{Stage}
use Rattle.traces.specs.Words.Stage.{Coming, Held, Gone}
use Rattle.trees.specs.Look.{Effect, moved, Handing, owned_behind, Look, Begin}
use Rattle.trees.specs.Look.Effect.{Stays, Comes, Goes}
use Rattle.trees.specs.Look.Handing.{Same}
use Rattle.trees.specs.Words.{is_told, stage, life, joint, is_held, Stands}
use Rattle.trees.specs.Children.{owned, owns, owner_behind}
use Rattle.trees.specs.Rules.{Told, told_whole, told_owner, Handed, Fits, Keeps}
use Rattle.trees.specs.Laws.{ComingWaits, GoingWaits, MissingIsOnItsWay, ComingsBringTheOwner}
use Rattle.trees.proofs.Joint.{stage_behind, leads}
use Rattle.trees.proofs.Agrees.{Agrees, MakeWaits, agrees, told_runs}
use Rattle.trees.proofs.Knowing.{none_comes_back}
use Rattle.trees.proofs.Lists.{all_drop, all_push}
use Rattle.trees.proofs.Owners.{made_now, owns_lead, same_owner}
use Rattle.trees.proofs.Taking.{gone_lead}

-- what isn't held is held behind an effect only where it comes
unheld_still : (a : Effect) (s : Stage) → is_held s ≡ false → (a ≡ Comes) ⊎ (is_held (moved a s) ≡ false)
unheld_still Stays s unheld = inr unheld
unheld_still Comes s unheld = inl refl
unheld_still Goes s unheld = inr refl

not_both : {A : Type 0} (s : Stage) → is_held s ≡ false → s ≡ Held → A
not_both Coming unheld held = absurd cc
not_both Held unheld held = absurd cc
not_both Gone unheld held = absurd cc

-- so these bring what is held behind them and wasn't before
pub coming_stands : {B : Type 0} (tells : B → Effect) (ds : List (Bundle B)) (s : Stage) → is_held s ≡ false → stage_behind tells ds s ≡ Held → Stands (λ (d : Bundle B). tells d.content) Comes ds
coming_stands tells [] s unheld held = not_both s unheld held
coming_stands {B} tells (d ∷ ds) s unheld held = first (unheld_still (tells d.content) s unheld) (λ still. coming_stands tells ds (moved (tells d.content) s) still held)
  where
    first : (tells d.content ≡ Comes) ⊎ (is_held (moved (tells d.content) s) ≡ false) → (is_held (moved (tells d.content) s) ≡ false → Stands (λ (d : Bundle B). tells d.content) Comes ds)
        → Stands (λ (d : Bundle B). tells d.content) Comes (d ∷ ds)
    first (inl comes) later = inl comes
    first (inr still) later = inr (later still)

-- what is live agrees with the joint stage
agreed : {X W B : Type 0} (look : Look X W B) (begin : Begin X) (h : List (Event W B)) → Keeps look begin h → (x : X) → is_told look begin x h ≡ true → life look begin x h ≡ Held
    → Agrees (joint look begin x h) Held (MakeWaits look x h) (GoingWaits look x h)
agreed look begin h k x told live = subst (λ l. Agrees (joint look begin x h) l (MakeWaits look x h) (GoingWaits look x h)) live (agrees look begin k.lawful h k.flows k.fits x told)

pub missing : (X W B : Type 0) → MissingIsOnItsWay X W B
missing X W B look begin h k x told live unheld = by_joint (joint look begin x h) refl (agreed look begin h k x told live)
  where
    by_joint : (j : Stage) → joint look begin x h ≡ j → Agrees j Held (MakeWaits look x h) (GoingWaits look x h) → ComingWaits look x h ⊎ GoingWaits look x h
    by_joint Coming is a = absurd a
    by_joint Held is a = inl (coming_stands (look.tells x) (bundles_waiting h) (stage look begin x h) unheld (leads look begin x h k.flows ∙ is))
    by_joint Gone is a = inr a

-- where no drop of it waits, it hasn't come yet, and all that waits comes to having it
pub missing_comes : {X W B : Type 0} (look : Look X W B) (begin : Begin X) (h : List (Event W B)) → Keeps look begin h → (x : X) → is_told look begin x h ≡ true → life look begin x h ≡ Held
    → is_held (stage look begin x h) ≡ false → (GoingWaits look x h → ⊥) → (stage look begin x h ≡ Coming) × (joint look begin x h ≡ Held)
missing_comes look begin h k x told live unheld none = (in_stage (stage look begin x h) refl, comes_to)
  where
    by_joint : (j : Stage) → joint look begin x h ≡ j → Agrees j Held (MakeWaits look x h) (GoingWaits look x h) → joint look begin x h ≡ Held
    by_joint Coming is a = absurd a
    by_joint Held is a = is
    by_joint Gone is a = absurd (none a)

    comes_to : joint look begin x h ≡ Held
    comes_to = by_joint (joint look begin x h) refl (agreed look begin h k x told live)

    in_stage : (s : Stage) → stage look begin x h ≡ s → stage look begin x h ≡ Coming
    in_stage Coming is = is
    in_stage Held is = not_both (stage look begin x h) unheld is
    in_stage Gone is =
        let gone : Held ≡ Gone = sym comes_to ∙ sym (leads look begin x h k.flows) ∙ ap (stage_behind (look.tells x) (bundles_waiting h)) is ∙ gone_lead (look.tells x) (bundles_waiting h) in
        absurd cc

-- ---- owners

whole_held : (s : Stage) → told_whole s ≡ Comes → s ≡ Held
whole_held Coming e = absurd cc
whole_held Held e = refl
whole_held Gone e = absurd cc

-- who owns it is somebody, or somebody else
some_owner : (o : Bool) → told_owner o ≡ Same → ⊥
some_owner true e = cc
some_owner false e = cc

never_comes : {A : Type 0} (a : Effect) → a ≡ Stays → a ≡ Comes → A
never_comes a stays comes = absurd cc

-- a bundle that brings a context tells who owns it
sent_hands : (told_before registers : Bool) (did told : Effect) (l : Stage) (hands handed : Handing) (o : Bool) → Told told_before registers did told l
    → (moved did l ≡ Held → Handed told_before registers hands handed o) → (did ≡ Comes → l ≡ Coming) → (did ≡ Comes → hands ≡ Same → ⊥) → told ≡ Comes → handed ≡ Same → ⊥
sent_hands true registers did told l hands handed o t hand new has comes same =
    let did_come : did ≡ Comes = sym t ∙ comes in
    has did_come (sym (hand (ap (λ a. moved a l) did_come ∙ ap (moved Comes) (new did_come))) ∙ same)
sent_hands false true did told l hands handed o t hand new has comes same = some_owner o (sym (hand (whole_held (moved did l) (sym t ∙ comes))) ∙ same)
sent_hands false false did told l hands handed o t hand new has comes same = never_comes told t comes

-- with each coming the owner comes
abbrev pub Owned : {B : Type 0} → (B → Effect) → (B → Handing) → Bundle B → Type 0
Owned tells handed d = tells d.content ≡ Comes → handed d.content ≡ Same → ⊥

owners_sent : {X W B : Type 0} (look : Look X W B) (begin : Begin X) (x : X) (h : List (Event W B)) → Fits look begin h → is_ended h ≡ false
    → AllByRecursion (Owned (look.tells x) (look.handed x)) (bundles_sent h)
owners_sent look begin x [] t runs = tt
owners_sent look begin x (Sends k u c ∷ h) t runs =
    all_push (Owned (look.tells x) (look.handed x)) (bundles_sent h) (record { entry = k; epoch = hears h; content = c }) (owners_sent look begin x h t.1 runs)
    (sent_hands (is_told look begin x h) (look.registers x c) (look.does x u) (look.tells x c) (life look begin x h) (look.hands x u) (look.handed x c) (owned look begin x (Sends k u c ∷ h))
    (t.0 runs x).told (t.0 runs x).handed (t.0 runs x).done.done.new (t.0 runs x).done.owned)
owners_sent look begin x (Reverts k w c ∷ h) t runs =
    all_push (Owned (look.tells x) (look.handed x)) (bundles_sent h) (record { entry = k; epoch = hears h + 1; content = c }) (owners_sent look begin x h t.1 runs)
    (λ comes. absurd (none_comes_back (look.does x w) (look.tells x c) (t.0 runs x).returned comes))
owners_sent look begin x (Ends ∷ h) t runs = absurd cc
owners_sent look begin x (_ ∷ h) t runs = owners_sent look begin x h t.1 runs

-- behind a coming it doesn't matter who owned it before
owner_brought : {B : Type 0} (tells : B → Effect) (handed : B → Handing) (ds : List (Bundle B)) → AllByRecursion (Owned tells handed) ds → Stands (λ (d : Bundle B). tells d.content) Comes ds
    → (a b : Bool) → owner_behind handed ds a ≡ owner_behind handed ds b
owner_brought tells handed [] all none a b = absurd none
owner_brought tells handed (d ∷ ds) all (inl comes) a b = ap (owner_behind handed ds) (made_now (handed d.content) a b (all.0 comes))
owner_brought tells handed (d ∷ ds) all (inr later) a b = owner_brought tells handed ds all.1 later (owned_behind (handed d.content) a) (owned_behind (handed d.content) b)

pub bring_owner : (X W B : Type 0) → ComingsBringTheOwner X W B
bring_owner X W B look begin h k x told live coming before =
    let runs : is_ended h ≡ false = told_runs look begin x h k.flows told in
    let all : AllByRecursion (Owned (look.tells x) (look.handed x)) (bundles_waiting h) =
    all_drop (Owned (look.tells x) (look.handed x)) (takes h) (bundles_sent h) (owners_sent look begin x h k.fits runs) in
    owner_brought (look.tells x) (look.handed x) (bundles_waiting h) all coming before (owns look begin x h)
    ∙ owns_lead look begin k.lawful x h k.flows k.fits runs
    ∙ same_owner look begin k.lawful x h k.flows k.fits told live
