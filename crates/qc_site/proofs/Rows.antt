-- Which row answers a request: epoch, then whether it is closed, then life, then what it wants.
use Rattle.std.proofs.Common.{◌≡◌, ◌⊎◌, inl, inr, ◌<◌, ◌≤◌, ◌≢◌, ◌+◌, ℕ, ◌==◌, nat_lt, nat_le, Bool, true, false, cond}
use Rattle.std.proofs.Common.{List, Option, Some, None, refl, sym, ap, ◌∙◌, arith}
use Rattle.std.proofs.lemmas.Bool.{eq-eqb, le-leb, leb-false, leb-true, lt-ltb, ltb-true, ne_eqb}
use Rattle.qc_stamp.specs.declared.stamp.TxId.{TxId}
use Rattle.qc_decl.specs.declared.declaration.Declaration.{Declaration}
use Rattle.qc_decl.specs.Vocabulary.{most_record_bytes}
use Rattle.qc_entry.specs.declared.line.Line.{Line}
use Rattle.qc_entry.specs.declared.record.Prepared.{Prepared}
use Rattle.qc_lock.specs.declared.held.Held.{Held}
use Rattle.qc_msg.specs.declared.message.Answer.{Answer}
use Rattle.qc_msg.specs.declared.message.Answer.TheVariants as says
use Rattle.qc_msg.specs.declared.message.Message.{Message}
use Rattle.qc_msg.specs.declared.message.Message.TheVariants as messages
use Rattle.qc_msg.specs.declared.message.Want.{Want}
use Rattle.qc_msg.specs.declared.record.Record.TheVariants as records
use Rattle.qc_msg.specs.Vocabulary.{epoch_length, quiet}
use Rattle.qc_msg.specs.Vocabulary.{start_with}
use Rattle.qc_site.specs.Vocabulary.{SiteState, answers, clock_after, closed, closed_fault, fault_of, grants}
use Rattle.qc_site.specs.Vocabulary.{installed, is_closed_for, life_fault, moved, names_declared, passed, recording}
use Rattle.qc_site.specs.Vocabulary.{requested, shut_answer, site_at, site_on}
use Rattle.qc_site.proofs.Cases.{IsSteady, state_cases, steady_cases}

-- a number below another isn't above it, nor is it above itself

above_not : (a b : ℕ) → a < b → nat_lt b a ≡ false
above_not a b less = by (nat_lt b a) refl
  where
    by : (t : Bool) → nat_lt b a ≡ t → t ≡ false
    by true is = let more : b < a = ltb-true b a is in absurd (omega arith)
    by false is = refl

itself_not : (a b : ℕ) → a ≡ b → nat_lt a b ≡ false
itself_not a b same = by (nat_lt a b) refl
  where
    by : (t : Bool) → nat_lt a b ≡ t → t ≡ false
    by true is = let less : a < b = ltb-true a b is in absurd (omega arith)
    by false is = refl

-- what refuses

behind : (s : SiteState) (epoch life : ℕ) → s.epoch < epoch → fault_of s epoch life ≡ Some (says.Behind s.epoch)
behind s epoch life less = rw (lt-ltb s.epoch epoch less) refl

ahead : (s : SiteState) (epoch life : ℕ) → epoch < s.epoch → fault_of s epoch life ≡ Some (says.Closed s.epoch)
ahead s epoch life less = rw (above_not epoch s.epoch less, lt-ltb epoch s.epoch less) refl

here : (s : SiteState) (epoch life : ℕ) → epoch ≡ s.epoch → fault_of s epoch life ≡ closed_fault s life s.closed_for
here s epoch life same = rw (itself_not s.epoch epoch (sym same), itself_not epoch s.epoch same) refl

shut : (s : SiteState) (epoch life other : ℕ) → epoch ≡ s.epoch → s.closed_for ≡ Some other
    → fault_of s epoch life ≡ Some (says.Closed other)
shut s epoch life other same is = here s epoch life same ∙ ap (λ (o : Option ℕ). closed_fault s life o) is

lived : (s : SiteState) (epoch life : ℕ) → epoch ≡ s.epoch → s.closed_for ≡ None
    → fault_of s epoch life ≡ life_fault s life
lived s epoch life same is = here s epoch life same ∙ ap (λ (o : Option ℕ). closed_fault s life o) is

restarted : (s : SiteState) (epoch life : ℕ) → epoch ≡ s.epoch → s.closed_for ≡ None → life ≢ 0 → life ≢ s.life
    → fault_of s epoch life ≡ Some (says.Restarted s.life)
restarted s epoch life same is some other = lived s epoch life same is
    ∙ (rw (ne_eqb life 0 some, ne_eqb life s.life other) refl)

free : (s : SiteState) (epoch life : ℕ) → epoch ≡ s.epoch → s.closed_for ≡ None → (life ≡ 0) ⊎ (life ≡ s.life)
    → fault_of s epoch life ≡ None
free s epoch life same is known = lived s epoch life same is ∙ by known
  where
    second : (t : Bool) → cond t None (cond true None (Some (says.Restarted s.life))) ≡ None
    second true = refl
    second false = refl

    by : (life ≡ 0) ⊎ (life ≡ s.life) → life_fault s life ≡ None
    by (inl none) = rw (eq-eqb life 0 none) refl
    by (inr same_life) = rw (eq-eqb life s.life same_life) (second (life == 0))

-- what a request does, where what it names is declared

asked : (decl : Declaration) (s : SiteState) (from number : ℕ) (tx : TxId) (epoch life : ℕ) (want : Want)
    (fault : Option Answer)
    → names_declared decl tx want ≡ true → fault_of s epoch life ≡ fault
    → site_at decl s from number (messages.Request tx epoch life want) ≡ requested decl s from number tx want fault
asked decl s from number tx epoch life want fault declared is =
    ap (λ (t : Bool). cond t (requested decl s from number tx want (fault_of s epoch life)) (moved s quiet)) declared
    ∙ ap (λ (o : Option Answer). requested decl s from number tx want o) is

module _ (decl : Declaration) (s : SiteState) (from number : ℕ) (tx : TxId) (epoch life : ℕ) (want : Want)
    (declared : names_declared decl tx want ≡ true) where
  pub told_behind : s.epoch < epoch
      → site_on decl s from number (messages.Request tx epoch life want) ≡ moved
      (passed s (messages.Request tx epoch life want)) (answers from number (says.Behind s.epoch))
  told_behind less = asked decl (passed s (messages.Request tx epoch life want)) from number tx epoch life want
      (Some (says.Behind s.epoch)) declared
      (behind (passed s (messages.Request tx epoch life want)) epoch life less)

  pub told_closed : epoch < s.epoch
      → site_on decl s from number (messages.Request tx epoch life want) ≡ moved
      (passed s (messages.Request tx epoch life want)) (answers from number (says.Closed s.epoch))
  told_closed less = asked decl (passed s (messages.Request tx epoch life want)) from number tx epoch life want
      (Some (says.Closed s.epoch)) declared
      (ahead (passed s (messages.Request tx epoch life want)) epoch life less)

  pub told_shut : (other : ℕ) → epoch ≡ s.epoch → s.closed_for ≡ Some other
      → site_on decl s from number (messages.Request tx epoch life want) ≡ moved
      (passed s (messages.Request tx epoch life want)) (answers from number (says.Closed other))
  told_shut other same is = asked decl (passed s (messages.Request tx epoch life want)) from number tx epoch life want
      (Some (says.Closed other)) declared
      (shut (passed s (messages.Request tx epoch life want)) epoch life other same is)

  pub told_restarted : epoch ≡ s.epoch → s.closed_for ≡ None → life ≢ 0 → life ≢ s.life
      → site_on decl s from number (messages.Request tx epoch life want) ≡ moved
      (passed s (messages.Request tx epoch life want)) (answers from number (says.Restarted s.life))
  told_restarted same is some other = asked decl
      (passed s (messages.Request tx epoch life want)) from number tx epoch life want
      (Some (says.Restarted s.life)) declared
      (restarted (passed s (messages.Request tx epoch life want)) epoch life same is some other)

  pub looked_at : epoch ≡ s.epoch → s.closed_for ≡ None → (life ≡ 0) ⊎ (life ≡ s.life)
      → site_on decl s from number (messages.Request tx epoch life want) ≡ grants decl
      (passed s (messages.Request tx epoch life want)) from number tx want
  looked_at same is known = asked decl (passed s (messages.Request tx epoch life want)) from number tx epoch life want
      None declared
      (free (passed s (messages.Request tx epoch life want)) epoch life same is known)

-- a request that names what isn't declared

pub undeclared : (decl : Declaration) (s : SiteState) (from number : ℕ) (tx : TxId) (epoch life : ℕ) (want : Want)
    → names_declared decl tx want ≡ false
    → site_on decl s from number (messages.Request tx epoch life want) ≡ moved
    (passed s (messages.Request tx epoch life want)) quiet
undeclared decl s from number tx epoch life want is =
    ap (λ (t : Bool). cond t (requested decl (passed s (messages.Request tx epoch life want)) from number tx want
    (fault_of (passed s (messages.Request tx epoch life want)) epoch life))
    (moved (passed s (messages.Request tx epoch life want)) quiet)) is

-- a Close, by its rows

later_not : (a b : ℕ) → a < b → nat_le b a ≡ false
later_not a b less = by (nat_le b a) refl
  where
    by : (t : Bool) → nat_le b a ≡ t → t ≡ false
    by true is = let more : b ≤ a = leb-true b a is in absurd (omega arith)
    by false is = refl

module _ (decl : Declaration) (s : SiteState) (from number k : ℕ) where
  pub close_behind : s.epoch + 1 < k → site_on decl s from number (messages.Close k) ≡ moved s
      (answers from number (says.Behind s.epoch))
  close_behind less = rw (lt-ltb (s.epoch + 1) k less) refl

  pub close_closed : k ≤ s.epoch → site_on decl s from number (messages.Close k) ≡ moved s
      (answers from number (says.Closed s.epoch))
  close_closed low = rw (above_not k (s.epoch + 1) (omega arith), le-leb k s.epoch low) refl

  near : k ≡ s.epoch + 1 → nat_lt (s.epoch + 1) k ≡ false
  near same = itself_not (s.epoch + 1) k (sym same)

  beyond : k ≡ s.epoch + 1 → nat_le k s.epoch ≡ false
  beyond same = later_not s.epoch k (omega arith)

  pub close_again : k ≡ s.epoch + 1 → s.closed_for ≡ Some k
      → site_on decl s from number (messages.Close k) ≡ moved s (answers from number (shut_answer s))
  close_again same is =
      let here : is_closed_for k s.closed_for ≡ true = ap (λ (o : Option ℕ). is_closed_for k o) is ∙ eq-eqb k k refl in
      rw (near same, beyond same, here) refl

  pub close_closes : k ≡ s.epoch + 1 → s.closed_for ≡ None
      → site_on decl s from number (messages.Close k) ≡ moved (closed s k)
      (recording from number (records.Close k) (shut_answer (closed s k)))
  close_closes same is =
      let here : is_closed_for k s.closed_for ≡ false = ap (λ (o : Option ℕ). is_closed_for k o) is in
      rw (near same, beyond same, here) refl

-- an Install, by its rows: the clock has passed its lines

module _ (decl : Declaration) (s : SiteState) (from number k clock : ℕ) (lines : List Line) where
  pub install_known : k ≤ s.epoch
      → site_on decl s from number (messages.Install (start_with k clock lines))
      ≡ moved (passed s (messages.Install (start_with k clock lines)))
      (answers from number says.Installed)
  install_known low = rw (le-leb k s.epoch low) refl

  pub install_long : s.epoch < k → most_record_bytes < epoch_length lines
      → site_on decl s from number (messages.Install (start_with k clock lines))
      ≡ moved (passed s (messages.Install (start_with k clock lines)))
      (answers from number (says.Behind s.epoch))
  install_long later long = rw (later_not s.epoch k later, later_not most_record_bytes (epoch_length lines) long) refl

  pub install_begins : s.epoch < k → epoch_length lines ≤ most_record_bytes
      → site_on decl s from number (messages.Install (start_with k clock lines))
      ≡ moved (installed (passed s (messages.Install (start_with k clock lines))) k clock lines)
      (recording from number (records.Install (start_with k clock lines)) says.Installed)
  install_begins later fits = rw (later_not s.epoch k later, le-leb (epoch_length lines) most_record_bytes fits) refl

-- the number stays; lives and epochs rise, and stay where the turn neither closes nor begins one

pub number_stays : (decl : Declaration) (s : SiteState) (from number : ℕ) (message : Message)
    → (site_on decl s from number message).site.number ≡ s.number
number_stays decl s from number message =
    state_cases (λ (x : SiteState). x.number ≡ s.number) decl (passed s message) from number message refl
    (λ tx epoch life r is. refl) (λ tx epoch life object view own is. refl) (λ tx. refl)
    (λ tx verdict is final. refl) (λ tx stamp p is. refl) (λ k is. refl) (λ k clock lines is later. refl)

pub life_rises : (decl : Declaration) (s : SiteState) (from number : ℕ) (message : Message)
    → s.life ≤ (site_on decl s from number message).site.life
life_rises decl s from number message =
    state_cases (λ (x : SiteState). s.life ≤ x.life) decl (passed s message) from number message (omega arith)
    (λ tx epoch life r is. omega arith) (λ tx epoch life object view own is. omega arith) (λ tx. omega arith)
    (λ tx verdict is final. omega arith) (λ tx stamp p is. omega arith)
    (λ k is. omega arith) (λ k clock lines is later. omega arith)

pub epoch_rises : (decl : Declaration) (s : SiteState) (from number : ℕ) (message : Message)
    → s.epoch ≤ (site_on decl s from number message).site.epoch
epoch_rises decl s from number message =
    state_cases (λ (x : SiteState). s.epoch ≤ x.epoch) decl (passed s message) from number message (omega arith)
    (λ tx epoch life r is. omega arith) (λ tx epoch life object view own is. omega arith) (λ tx. omega arith)
    (λ tx verdict is final. omega arith) (λ tx stamp p is. omega arith)
    (λ k is. omega arith) (λ k clock lines is later. let above : s.epoch < k = leb-false k s.epoch later in omega arith)

pub steady_stays : (A : Type 0) (part : SiteState → A) (decl : Declaration) (s : SiteState) (from number : ℕ)
    (message : Message)
    → IsSteady (site_on decl s from number message).turn
    → ((x : SiteState) (clock : ℕ) → part (record x { clock = clock }) ≡ part x)
    → ((x : SiteState) (log recorded arrived : List Line) (held : List Held) (prepared : List Prepared)
    → part (record x { log = log; recorded = recorded; arrived = arrived; held = held; prepared = prepared }) ≡ part x)
    → part (site_on decl s from number message).site ≡ part s
steady_stays A part decl s from number message steady clocked changed =
    let p : SiteState = passed s message in
    let start : part p ≡ part s = clocked s (clock_after s.clock message) in
    steady_cases (λ (x : SiteState). part x ≡ part s) decl p from number message start
    (λ tx epoch life r is. changed p p.log p.recorded p.arrived _ p.prepared ∙ start)
    (λ tx epoch life object view own is. changed p _ p.recorded _ _ p.prepared ∙ start)
    (λ tx. changed p p.log _ p.arrived p.held _ ∙ start)
    (λ tx verdict is final. changed p p.log p.recorded p.arrived _ _ ∙ start)
    (λ tx stamp q is. changed p _ _ _ _ _ ∙ start) steady

pub life_stays : (decl : Declaration) (s : SiteState) (from number : ℕ) (message : Message)
    → IsSteady (site_on decl s from number message).turn → (site_on decl s from number message).site.life ≡ s.life
life_stays decl s from number message steady =
    steady_stays ℕ (λ (x : SiteState). x.life) decl s from number message steady (λ x clock. refl)
    (λ x log recorded arrived held prepared. refl)

pub epoch_stays : (decl : Declaration) (s : SiteState) (from number : ℕ) (message : Message)
    → IsSteady (site_on decl s from number message).turn → (site_on decl s from number message).site.epoch ≡ s.epoch
epoch_stays decl s from number message steady =
    steady_stays ℕ (λ (x : SiteState). x.epoch) decl s from number message steady (λ x clock. refl)
    (λ x log recorded arrived held prepared. refl)

pub closing_stays : (decl : Declaration) (s : SiteState) (from number : ℕ) (message : Message)
    → IsSteady (site_on decl s from number message).turn
    → (site_on decl s from number message).site.closed_for ≡ s.closed_for
closing_stays decl s from number message steady =
    steady_stays (Option ℕ) (λ (x : SiteState). x.closed_for) decl s from number message steady (λ x clock. refl)
    (λ x log recorded arrived held prepared. refl)

pub began_stays : (decl : Declaration) (s : SiteState) (from number : ℕ) (message : Message)
    → IsSteady (site_on decl s from number message).turn → (site_on decl s from number message).site.began ≡ s.began
began_stays decl s from number message steady =
    steady_stays (List Line) (λ (x : SiteState). x.began) decl s from number message steady (λ x clock. refl)
    (λ x log recorded arrived held prepared. refl)
