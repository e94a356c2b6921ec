-- Changes of others behind the point stand in waiting bundles.
use Rattle.std.proofs.Common.{◌≡◌, ℕ, ◌+◌, ◌≤◌, false, ◌⊎◌, inl, inr, Option, None, Some, List, [], ◌∷◌, ◌++◌, refl, ap, sym, subst, ◌∙◌, arith}
use Rattle.traces.specs.Event.{Bundle}
use Rattle.traces.specs.Event.Event.{Sends, Takes, Accepts, Reverts, Ignores, Changes, Does, Ends}
use Rattle.traces.specs.Links.{hears, bundles_waiting, is_ended, now}
use Rattle.traces.specs.Field.{Content, Trace}
use Rattle.traces.specs.Field.Content.{Nothing, Gives, Begins, Removes, Leaves}
use Rattle.traces.specs.Words.{Start, Stage, after, stage, stage_behind, stage_served, base}
use Rattle.traces.specs.Words.Stage.{Coming, Held, Gone}
use Rattle.traces.specs.Rules.{Flows, Tells, Ordered, Fits, Untouched}
use Rattle.traces.specs.Laws.{Stands, RemovalStands, IsChange, ChangedTo, ChangesBehindThePointWait}
use Rattle.traces.proofs.Waits.{sent_waits, taken_leaves}
use Rattle.traces.proofs.Stages.{along, gone_after}
use Rattle.traces.proofs.Judged.{stands_last, stands_push}
use Rattle.traces.proofs.Follows.{gone_or_not}

-- a removal that waits goes on waiting, when a bundle is sent, and in front of what waits
removal_push : {V : Type 0} (d : Bundle (Content V)) (ds : List (Bundle (Content V))) → RemovalStands ds → RemovalStands (ds ++ d ∷ [])
removal_push {V = V} d ds r = (r.0, go r.1)
  where
    go : Stands r.0 Removes ds ⊎ Stands r.0 Leaves ds → Stands r.0 Removes (ds ++ d ∷ []) ⊎ Stands r.0 Leaves (ds ++ d ∷ [])
    go (inl i) = inl (stands_push r.0 Removes d ds i)
    go (inr i) = inr (stands_push r.0 Leaves d ds i)

removal_later : {V : Type 0} (d : Bundle (Content V)) (ds : List (Bundle (Content V))) → RemovalStands ds → RemovalStands (d ∷ ds)
removal_later {V = V} d ds r = (r.0, go r.1)
  where
    go : Stands r.0 Removes ds ⊎ Stands r.0 Leaves ds → Stands r.0 Removes (d ∷ ds) ⊎ Stands r.0 Leaves (d ∷ ds)
    go (inl i) = inl (inr i)
    go (inr i) = inr (inr i)

-- from a held context what waits leads to one that isn't held only by a removal
removal_content : {V : Type 0} (d : Bundle (Content V)) (ds : List (Bundle (Content V))) (c : Content V) → d.content ≡ c → (stage_behind (after c Held) ds ≡ Held → ⊥)
    → ((stage_behind Held ds ≡ Held → ⊥) → RemovalStands ds) → RemovalStands (d ∷ ds)
removal_content d ds Nothing e ne before = removal_later d ds (before ne)
removal_content d ds (Gives v) e ne before = removal_later d ds (before ne)
removal_content d ds (Begins v) e ne before = removal_later d ds (before ne)
removal_content d ds Removes e ne before = (d.entry, inl (inl (refl, e)))
removal_content d ds Leaves e ne before = (d.entry, inr (inl (refl, e)))

removal_waits : {V : Type 0} (s : Stage) (ds : List (Bundle (Content V))) → s ≡ Held → (stage_behind s ds ≡ Held → ⊥) → RemovalStands ds
removal_waits s [] e ne = absurd (ne e)
removal_waits s (d ∷ ds) e ne =
    removal_content d ds d.content refl (subst (λ z. stage_behind (after d.content z) ds ≡ Held → ⊥) e ne) (removal_waits Held ds refl)

is_past : {V : Type 0} (k : ℕ) (v : V) (j : ℕ) (u : Option V) → IsChange k v j u → j ≡ k
is_past k v j None e = absurd e
is_past k v j (Some w) e = e.0

changed_past : {V : Type 0} (k : ℕ) (v : V) (h : Trace V) → Ordered h → ChangedTo k v h → k ≤ now h
changed_past k v [] o e = absurd e
changed_past k v (Sends j u c ∷ h) o (inl e) = omega (arith, is_past k v j u e)
changed_past k v (Sends j u c ∷ h) o (inr e) = omega (arith, changed_past k v h o.1 e, o.0.after)
changed_past k v (Changes j u ∷ h) o (inl e) = omega (arith, is_past k v j u e)
changed_past k v (Changes j u ∷ h) o (inr e) = omega (arith, changed_past k v h o.1 e, o.0)
changed_past k v (Accepts j w ∷ h) o e = omega (arith, changed_past k v h o.1 e, o.0)
changed_past k v (Reverts j w c ∷ h) o e = omega (arith, changed_past k v h o.1 e, o.0)
changed_past k v (Ignores j w ∷ h) o e = omega (arith, changed_past k v h o.1 e, o.0)
changed_past k v (_ ∷ h) o e = changed_past k v h o.1 e

-- the change is known, or stands in a waiting bundle, or a removal does
abbrev pub Known : {V : Type 0} → ℕ → V → ℕ → List (Bundle (Content V)) → Type 0
Known k v b ds = (k ≤ b) ⊎ (Stands k (Gives v) ds ⊎ RemovalStands ds)

-- wherever what waits is taken so far that the context is held
abbrev pub Told : {V : Type 0} → ℕ → V → Stage → ℕ → List (Bundle (Content V)) → Type 0
Told k v s b [] = s ≡ Held → Known k v b []
Told k v s b (d ∷ ds) = (s ≡ Held → Known k v b (d ∷ ds)) × Told k v (after d.content s) d.entry ds

told_here : {V : Type 0} (k : ℕ) (v : V) (s : Stage) (b : ℕ) (ds : List (Bundle (Content V))) → Told k v s b ds → s ≡ Held → Known k v b ds
told_here k v s b [] t e = t e
told_here k v s b (d ∷ ds) t e = t.0 e

known_push : {V : Type 0} (k : ℕ) (v : V) (b : ℕ) (d : Bundle (Content V)) (ds : List (Bundle (Content V))) → Known k v b ds → Known k v b (ds ++ d ∷ [])
known_push k v b d ds (inl i) = inl i
known_push k v b d ds (inr (inl i)) = inr (inl (stands_push k (Gives v) d ds i))
known_push k v b d ds (inr (inr i)) = inr (inr (removal_push d ds i))

told_push : {V : Type 0} (k : ℕ) (v : V) (s : Stage) (b : ℕ) (d : Bundle (Content V)) (ds : List (Bundle (Content V))) → k ≤ d.entry → Told k v s b ds → Told k v s b (ds ++ d ∷ [])
told_push k v s b d [] l t = (λ e. known_push k v b d [] (t e), λ e. inl l)
told_push k v s b d (x ∷ ds) l t = (λ e. known_push k v b d (x ∷ ds) (t.0 e), told_push k v (after x.content s) x.entry d ds l t.1)

-- the bundle that is sent with the change tells it
told_last : {V : Type 0} (k : ℕ) (v : V) (s : Stage) (b : ℕ) (d : Bundle (Content V)) (ds : List (Bundle (Content V))) → k ≤ d.entry
    → ((t : Stage) (a : ℕ) (es : List (Bundle (Content V))) → stage_behind t es ≡ stage_behind s ds → t ≡ Held → Known k v a (es ++ d ∷ [])) → Told k v s b (ds ++ d ∷ [])
told_last k v s b d [] l g = (g s b [] refl, λ e. inl l)
told_last k v s b d (x ∷ ds) l g = (g s b (x ∷ ds) refl, told_last k v (after x.content s) x.entry d ds l g)

-- where the parent doesn't serve the context in the end, a removal stands
told_lost : {V : Type 0} (k : ℕ) (v : V) (s : Stage) (b : ℕ) (ds : List (Bundle (Content V))) → (stage_behind s ds ≡ Held → ⊥) → Told k v s b ds
told_lost k v s b [] ne = λ e. absurd (ne e)
told_lost k v s b (d ∷ ds) ne = (λ e. inr (inr (removal_waits s (d ∷ ds) e ne)), told_lost k v (after d.content s) d.entry ds ne)

told_gone : {V : Type 0} (k : ℕ) (v : V) (s : Stage) (b : ℕ) (ds : List (Bundle (Content V))) → s ≡ Gone → Told k v s b ds
told_gone k v s b [] g = λ e. let two : Held ≡ Gone = sym e ∙ g in absurd cc
told_gone k v s b (d ∷ ds) g = (λ e. let two : Held ≡ Gone = sym e ∙ g in absurd cc, told_gone k v (after d.content s) d.entry ds (gone_after d.content s g))

told_sent : {V : Type 0} (k : ℕ) (v : V) (s : Stage) (b : ℕ) (d : Bundle (Content V)) (ds : List (Bundle (Content V))) (j : ℕ) (u : Option V) (c : Content V)
    → d.entry ≡ j → d.content ≡ c → IsChange k v j u → (c ≡ Nothing → stage_behind s ds ≡ Held → ⊥) → ((x : V) → c ≡ Begins x → stage_behind s ds ≡ Held → ⊥)
    → ((x : V) → c ≡ Gives x → u ≡ Some x) → Told k v s b (ds ++ d ∷ [])
told_sent k v s b d ds j None c e i change none comes gives = absurd change
told_sent {V = V} k v s b d ds j (Some w) c e i change none comes gives = told_last k v s b d ds (omega (arith, e, change.0)) (λ t a es same held. tells c i none comes gives t a es same held)
  where
    lost : (t : Stage) (a : ℕ) (es : List (Bundle (Content V))) → stage_behind t es ≡ stage_behind s ds → t ≡ Held → (stage_behind s ds ≡ Held → ⊥) → Known k v a (es ++ d ∷ [])
    lost t a es same held ne = inr (inr (removal_push d es (removal_waits t es held (λ z. ne (sym same ∙ z)))))

    tells : (c : Content V) → d.content ≡ c → (c ≡ Nothing → stage_behind s ds ≡ Held → ⊥) → ((x : V) → c ≡ Begins x → stage_behind s ds ≡ Held → ⊥) → ((x : V) → c ≡ Gives x → Some w ≡ Some x)
        → (t : Stage) (a : ℕ) (es : List (Bundle (Content V))) → stage_behind t es ≡ stage_behind s ds → t ≡ Held → Known k v a (es ++ d ∷ [])
    tells Nothing i none comes gives t a es same held = lost t a es same held (none refl)
    tells (Begins x) i none comes gives t a es same held = lost t a es same held (comes x refl)
    tells (Gives x) i none comes gives t a es same held =
        let given : Some w ≡ Some x = gives x refl in
        let value : x ≡ v = (let b : w ≡ v = change.1 in cc) in
        inr (inl (stands_last k (Gives v) d es (e ∙ change.0) (i ∙ ap Gives value)))
    tells Removes i none comes gives t a es same held = inr (inr (d.entry, inl (stands_last d.entry Removes d es refl i)))
    tells Leaves i none comes gives t a es same held = inr (inr (d.entry, inr (stands_last d.entry Leaves d es refl i)))

-- what the bundle holds, by the rule, where it's sent with a change
none_lost : {V : Type 0} (start : Start V) (w : V) (c : Content V) (h : Trace V) → Tells start (Some w) c h → c ≡ Nothing → stage_served start.stage h ≡ Held → ⊥
none_lost start w Nothing h t e = t
none_lost start w (Gives x) h t e = absurd cc
none_lost start w (Begins x) h t e = absurd cc
none_lost start w Removes h t e = absurd cc
none_lost start w Leaves h t e = absurd cc

comes_lost : {V : Type 0} (start : Start V) (u : Option V) (c : Content V) (h : Trace V) → Tells start u c h → (x : V) → c ≡ Begins x → stage_served start.stage h ≡ Held → ⊥
comes_lost start u Nothing h t x e = absurd cc
comes_lost start u (Gives y) h t x e = absurd cc
comes_lost start u (Begins y) h t x e = λ held. let two : Coming ≡ Held = sym t.1 ∙ held in cc
comes_lost start u Removes h t x e = absurd cc
comes_lost start u Leaves h t x e = absurd cc

gives_change : {V : Type 0} (start : Start V) (u : Option V) (c : Content V) (h : Trace V) → Tells start u c h → (x : V) → c ≡ Gives x → u ≡ Some x
gives_change start u Nothing h t x e = absurd cc
gives_change start u (Gives y) h t x e = t.0 ∙ (let same : Gives y ≡ Gives x = e in cc)
gives_change start u (Begins y) h t x e = absurd cc
gives_change start u Removes h t x e = absurd cc
gives_change start u Leaves h t x e = absurd cc

untouched_unchanged : {V : Type 0} (k : ℕ) (v : V) (h : Trace V) → Untouched h → ChangedTo k v h → ⊥
untouched_unchanged k v [] u e = e
untouched_unchanged k v (Sends j w c ∷ h) u (inl e) = subst (λ z. IsChange k v j z) u.0 e
untouched_unchanged k v (Sends j w c ∷ h) u (inr e) = untouched_unchanged k v h u.1 e
untouched_unchanged k v (Changes j w ∷ h) u (inl e) = subst (λ z. IsChange k v j z) u.0 e
untouched_unchanged k v (Changes j w ∷ h) u (inr e) = untouched_unchanged k v h u.1 e
untouched_unchanged k v (Accepts j w ∷ h) u e = untouched_unchanged k v h u.1 e
untouched_unchanged k v (_ ∷ h) u e = untouched_unchanged k v h u e

abbrev pub ToldIn : {V : Type 0} → Start V → ℕ → V → Trace V → Type 0
ToldIn start k v h = Told k v (stage start.stage h) (base h) (bundles_waiting h)

told_new : {V : Type 0} (start : Start V) (k : ℕ) (v : V) (j : ℕ) (w : V) (c : Content V) (h : Trace V) → Flows h → is_ended h ≡ false → Tells start (Some w) c h → IsChange k v j (Some w)
    → ToldIn start k v (Sends j (Some w) c ∷ h)
told_new start k v j w c h f live t i =
    subst (λ ds. Told k v (stage start.stage h) (base h) ds) (sym (sent_waits (record { entry = j; epoch = hears h; content = c }) h f))
    (told_sent k v (stage start.stage h) (base h) (record { entry = j; epoch = hears h; content = c }) (bundles_waiting h) j (Some w) c refl refl i
    (λ e held. none_lost start w c h t e (sym (along start.stage h f live) ∙ held))
    (λ x e held. comes_lost start (Some w) c h t x e (sym (along start.stage h f live) ∙ held))
    (gives_change start (Some w) c h t))

changed : {V : Type 0} (start : Start V) (k : ℕ) (v : V) (h : Trace V) → Flows h → Ordered h → Fits start h → is_ended h ≡ false → ChangedTo k v h → ToldIn start k v h
changed start k v [] f o t live e = absurd e
changed start k v (Sends j None c ∷ h) f o t live (inl e) = absurd e
changed start k v (Sends j (Some w) c ∷ h) f o t live (inl e) = go (gone_or_not (stage start.stage h))
  where
    go : (stage start.stage h ≡ Gone) ⊎ (stage start.stage h ≡ Gone → ⊥) → ToldIn start k v (Sends j (Some w) c ∷ h)
    go (inl g) = told_gone k v (stage start.stage h) (base h) (bundles_waiting (Sends j (Some w) c ∷ h)) g
    go (inr ne) = told_new start k v j w c h f.1 live (t.0 ne) e
changed start k v (Sends j u c ∷ h) f o t live (inr e) =
    subst (λ ds. Told k v (stage start.stage h) (base h) ds) (sym (sent_waits (record { entry = j; epoch = hears h; content = c }) h f.1))
    (told_push k v (stage start.stage h) (base h) (record { entry = j; epoch = hears h; content = c }) (bundles_waiting h) (omega (arith, changed_past k v h o.1 e, o.0.after)) (changed start k v h f.1 o.1 t.1 live e))
changed start k v (Reverts j w c ∷ h) f o t live e =
    subst (λ ds. Told k v (stage start.stage h) (base h) ds) (sym (sent_waits (record { entry = j; epoch = hears h + 1; content = c }) h f.1))
    (told_push k v (stage start.stage h) (base h) (record { entry = j; epoch = hears h + 1; content = c }) (bundles_waiting h) (omega (arith, changed_past k v h o.1 e, o.0)) (changed start k v h f.1 o.1 t.1 live e))
changed start k v (Changes j None ∷ h) f o t live (inl e) = absurd e
changed start k v (Changes j (Some w) ∷ h) f o t live (inl e) = go (gone_or_not (stage start.stage h))
  where
    go : (stage start.stage h ≡ Gone) ⊎ (stage start.stage h ≡ Gone → ⊥) → ToldIn start k v (Changes j (Some w) ∷ h)
    go (inl g) = told_gone k v (stage start.stage h) (base h) (bundles_waiting h) g
    go (inr ne) = told_lost k v (stage start.stage h) (base h) (bundles_waiting h) (λ held. t.0 ne (sym (along start.stage h f.1 live) ∙ held))
changed start k v (Changes j u ∷ h) f o t live (inr e) = changed start k v h f.1 o.1 t.1 live e
changed start k v (Takes d ∷ h) f o t live e =
    let a : Told k v (stage start.stage h) (base h) (d ∷ f.0.rest) = subst (λ ds. Told k v (stage start.stage h) (base h) ds) f.0.is (changed start k v h f.1 o.1 t.1 live e) in
    subst (λ ds. Told k v (after d.content (stage start.stage h)) d.entry ds) (sym (taken_leaves d h f.0)) a.1
changed start k v (Does Nothing ∷ h) f o t live e = changed start k v h f.1 o.1 t.1 live e
changed start k v (Does (Gives x) ∷ h) f o t live e = absurd t.0
changed start k v (Does (Begins x) ∷ h) f o t live e = absurd (untouched_unchanged k v h t.0.untouched e)
changed start k v (Does Removes ∷ h) f o t live e = told_gone k v Gone (base h) (bundles_waiting h) refl
changed start k v (Does Leaves ∷ h) f o t live e = absurd t.0
changed start k v (Ends ∷ h) f o t live e = absurd cc
changed start k v (_ ∷ h) f o t live e = changed start k v h f.1 o.1 t.1 live e

pub changes_wait : (V : Type 0) → ChangesBehindThePointWait V
changes_wait V start k v h r live held e behind = go (told_here k v (stage start.stage h) (base h) (bundles_waiting h) (changed start k v h r.flows r.ordered r.fits live e) held)
  where
    go : Known k v (base h) (bundles_waiting h) → Stands k (Gives v) (bundles_waiting h) ⊎ RemovalStands (bundles_waiting h)
    go (inl i) = absurd (omega (arith, i, behind))
    go (inr i) = i
