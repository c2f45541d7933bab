-- In a net in which nobody falls and no epoch is closed, each grant is of the first epoch, and of the life in which its
-- site is.
use Rattle.std.proofs.Common.{◌≡◌, ℕ, suc, ◌<◌, ◌≤◌, inl, inr, List, [], ◌∷◌, ◌++◌, sym, ap, ◌∙◌, subst, arith}
use Rattle.qc_list.specs.Vocabulary.{In}
use Rattle.qc_decl.specs.declared.declaration.Declaration.{Declaration}
use Rattle.theory_machine.specs.Vocabulary.{Abort, Act, Announce, Begin, Choose, Close, Commit, CommitUnknown, Count}
use Rattle.theory_machine.specs.Vocabulary.{Decide, Deed, Execute, ExecuteAbsent, Grant, Granted, GrantedLaw, Grants}
use Rattle.theory_machine.specs.Vocabulary.{HasRisingEpochs, Install, IsAllowed, IsRun, Learn, Prepare, PrepareLost}
use Rattle.theory_machine.specs.Vocabulary.{Recover, Rise, RiseClient, SendAppend, State, StateLaws, TakeSnapshot, Vote}
use Rattle.theory_machine.specs.Vocabulary.{after_act, epoch_from, state}
use Rattle.theory_machine.proofs.Epochs.{epoch-append, rising-left, rising-right, upward}
use Rattle.theory_machine.proofs.Keeps.{laws}
use Rattle.theory_machine.proofs.Names.{put_case}
use Rattle.laws_refinement.specs.Vocabulary.{Mirrors, Net, SiteMirrors}
use Rattle.laws_atomic.proofs.Calm.{IsCalm, all_first, all_up}

-- the machine's lives begin with 1, and each grant is of one

record HasLives (now : State) : Type 0 where
  pub lives : (site : ℕ) → 0 < now.life site
  pub granted : (g : Granted) → In g now.granted → 0 < g.life

next_life : (w : State) (site : ℕ) → HasLives w → (s : ℕ) → 0 < (after_act w (Rise site)).life s
next_life w site h s = put_case (λ (n : ℕ). 0 < n) w.life site (suc (w.life site)) s (λ same. omega arith)
    (λ other. h.lives s)

lives_go_on : (decl : Declaration) (w : State) (a : Act) → IsAllowed decl w a → HasLives w → HasLives (after_act w a)
lives_go_on decl w (Begin tx epoch) ok h = record { lives = h.lives; granted = h.granted }
lives_go_on decl w (Choose tx operation) ok h = record { lives = h.lives; granted = h.granted }
lives_go_on decl w (SendAppend s) ok h = record { lives = h.lives; granted = h.granted }
lives_go_on decl w (Execute tx) ok h = record { lives = h.lives; granted = h.granted }
lives_go_on decl w (ExecuteAbsent tx operation) ok h = record { lives = h.lives; granted = h.granted }
lives_go_on decl w (Grant g) ok h = record {
  lives = h.lives;
  granted = λ x among. elim among [
    | inl same ↦ subst (λ (y : Granted). 0 < y.life) (sym same) (subst (λ (n : ℕ). 0 < n) (sym ok.1) (h.lives g.site))
    | inr old ↦ h.granted x old
  ];
}
lives_go_on decl w (Count g) ok h = record { lives = h.lives; granted = h.granted }
lives_go_on decl w (Prepare tx) ok h = record { lives = h.lives; granted = h.granted }
lives_go_on decl w (Vote site tx) ok h = record { lives = h.lives; granted = h.granted }
lives_go_on decl w (PrepareLost site tx) ok h = record { lives = h.lives; granted = h.granted }
lives_go_on decl w (Commit c) ok h = record { lives = h.lives; granted = h.granted }
lives_go_on decl w (CommitUnknown c) ok h = record { lives = h.lives; granted = h.granted }
lives_go_on decl w (Recover tx with_record) ok h = record { lives = h.lives; granted = h.granted }
lives_go_on decl w (Abort tx) ok h = record { lives = h.lives; granted = h.granted }
lives_go_on decl w (RiseClient client clock) ok h = record { lives = h.lives; granted = h.granted }
lives_go_on decl w (Announce tx) ok h = record { lives = h.lives; granted = h.granted }
lives_go_on decl w (Learn site v) ok h = record { lives = h.lives; granted = h.granted }
lives_go_on decl w (Rise site) ok h = record { lives = next_life w site h; granted = h.granted }
lives_go_on decl w (Close site) ok h = record { lives = next_life w site h; granted = h.granted }
lives_go_on decl w (TakeSnapshot s) ok h = record { lives = h.lives; granted = h.granted }
lives_go_on decl w (Decide d) ok h = record { lives = h.lives; granted = h.granted }
lives_go_on decl w (Install site d) ok h = record { lives = h.lives; granted = h.granted }

has_lives : (decl : Declaration) (acts : List Act) → IsRun decl acts → HasLives (state acts)
has_lives decl [] run = record { lives = λ site. omega arith; granted = λ g never. absurd never }
has_lives decl (a ∷ older) run = lives_go_on decl (state older) a run.0 (has_lives decl older run.1)

module _ (decl : Declaration) (net : Net) (calm : IsCalm decl net) (acts : List Act) (run : IsRun decl acts)
    (m : Mirrors decl (state acts) net) (g : Granted) (known : In g (state acts).granted) where
  wl : StateLaws decl (state acts)
  wl = laws decl acts run

  site : SiteMirrors decl (net.sites g.site) ((state acts).deeds g.site) ((state acts).life g.site)
  site = m.sites g.site (m.placed g known) (all_up decl net calm g.site)

  law : GrantedLaw ((state acts).deeds g.site) ((state acts).life g.site) g
  law = wl.granted g known

  pub is_of_first_epoch : g.epoch ≡ 1
  is_of_first_epoch =
      let rest : List Deed = Grants g.tx g.items g.view ∷ law.post in
      let rising : HasRisingEpochs 1 (g.before ++ rest) = subst (HasRisingEpochs 1) law.split (wl.rising g.site) in
      let low : 1 ≤ epoch_from 1 g.before = upward g.before 1 (rising-left g.before rest 1 rising) in
      let high : epoch_from 1 g.before ≤ epoch_from (epoch_from 1 g.before) rest =
      upward rest (epoch_from 1 g.before) (rising-right g.before rest 1 rising) in
      let there : epoch_from (epoch_from 1 g.before) rest ≡ epoch_from 1 ((state acts).deeds g.site) =
      sym (ap (epoch_from 1) law.split ∙ epoch-append g.before rest 1) in
      let now : epoch_from 1 ((state acts).deeds g.site) ≡ (net.sites g.site).epoch = site.epoch in
      let first : (net.sites g.site).epoch ≡ 1 = (all_first decl net calm g.site).epoch_is in
      let told : epoch_from 1 g.before ≡ g.epoch = (wl.facts g known).current in
      omega arith

  pub is_of_its_life : (state acts).life g.site ≡ g.life
  is_of_its_life =
      let some : 0 < g.life = (has_lives decl acts run).granted g known in
      let older : g.life ≤ (state acts).life g.site = law.older in
      let now : (net.sites g.site).life ≡ (state acts).life g.site = site.life in
      let first : (net.sites g.site).life ≡ 1 = (all_first decl net calm g.site).life_is in
      omega arith
