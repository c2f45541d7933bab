-- The clock passes each stamp that comes, and never falls.
use Rattle.std.proofs.Common.{◌≡◌, ◌⊎◌, inl, inr, ℕ, ◌≤◌, max, List, [], ◌∷◌, fold, ap, arith}
use Rattle.qc_list.specs.Vocabulary.{In}
use Rattle.qc_stamp.specs.declared.stamp.Stamp.{Stamp}
use Rattle.qc_entry.specs.declared.line.Line.{Line}
use Rattle.qc_decl.specs.declared.declaration.Declaration.{Declaration}
use Rattle.qc_msg.specs.declared.message.Message.{Message}
use Rattle.qc_msg.specs.declared.message.Message.TheVariants as messages
use Rattle.qc_msg.specs.declared.message.Outcome.{Outcome}
use Rattle.qc_msg.specs.declared.message.Outcome.TheVariants.{Committed, Aborted, Active}
use Rattle.qc_msg.specs.declared.message.Want.{Want}
use Rattle.qc_msg.specs.declared.message.Want.TheVariants.{Read, Append, Prepare}
use Rattle.qc_msg.specs.declared.step.Input.{Input}
use Rattle.qc_msg.specs.declared.step.Input.TheVariants as inputs
use Rattle.qc_msg.specs.Vocabulary.{Deed, Falls, Rises, Sends, Takes, Tells, Writes, quiet}
use Rattle.qc_site.specs.Vocabulary.{SiteMove, SiteState, clock_after, clock_asked, clock_told, latest, moved, new_site}
use Rattle.qc_site.specs.Vocabulary.{passed, site_after, site_does, site_on, site_takes, stamps_at, stamps_given}
use Rattle.qc_site.specs.Vocabulary.{stamps_in, stamps_of, stamps_taken, stamps_told, view_in}
use Rattle.qc_site.proofs.Cases.{state_cases}
use Rattle.qc_list.proofs.Members.{In-either}

-- what a message does once the clock has passed leaves it as it is, or lets it rise
pub clock_on : (decl : Declaration) (s : SiteState) (from number : ℕ) (message : Message)
    → clock_after s.clock message ≤ (site_on decl s from number message).site.clock
clock_on decl s from number message =
    let p : SiteState = passed s message in
    state_cases (λ (x : SiteState). p.clock ≤ x.clock) decl p from number message (omega arith)
    (λ tx epoch life r is. omega arith) (λ tx epoch life object view own is. omega arith) (λ tx. omega arith)
    (λ tx verdict is final. omega arith) (λ tx stamp q is. omega arith)
    (λ k is. omega arith) (λ k clock lines is later. omega arith)

-- the latest of a clock and lines

pub latest_later : (clock : ℕ) (lines : List Line) → clock ≤ latest clock lines
latest_later clock [] = omega arith
latest_later clock (l ∷ ls) =
    let later : max clock l.stamp.clock ≤ latest (max clock l.stamp.clock) ls =
    latest_later (max clock l.stamp.clock) ls in omega arith

latest_passes : (clock : ℕ) (lines : List Line) (stamp : Stamp) → In stamp (stamps_of lines)
    → stamp.clock ≤ latest clock lines
latest_passes clock [] stamp member = absurd member
latest_passes clock (l ∷ ls) stamp (inl same) =
    let later : max clock l.stamp.clock ≤ latest (max clock l.stamp.clock) ls =
    latest_later (max clock l.stamp.clock) ls in
    let is : stamp.clock ≡ l.stamp.clock = ap (λ (s : Stamp). s.clock) same in
    omega arith
latest_passes clock (l ∷ ls) stamp (inr member) = latest_passes (max clock l.stamp.clock) ls stamp member

-- the clock as a message comes

asked_later : (clock : ℕ) (want : Want) → clock ≤ clock_asked clock want
asked_later clock (Read read) = omega arith
asked_later clock (Append object view own) = latest_later clock view
asked_later clock Prepare = omega arith

told_later : (clock : ℕ) (verdict : Outcome) → clock ≤ clock_told clock verdict
told_later clock (Committed stamp) = omega arith
told_later clock Aborted = omega arith
told_later clock Active = omega arith

after_later : (clock : ℕ) (message : Message) → clock ≤ clock_after clock message
after_later clock (messages.Request tx epoch life want) = asked_later clock want
after_later clock (messages.Answer to answer) = omega arith
after_later clock (messages.Decision tx verdict) = told_later clock verdict
after_later clock (messages.Inquiry tx) = omega arith
after_later clock (messages.Ask tx) = omega arith
after_later clock (messages.Close epoch) = omega arith
after_later clock (messages.Install start) = latest_later clock start.lines

asked_passes : (clock : ℕ) (want : Want) (stamp : Stamp) → In stamp (stamps_of (view_in want))
    → stamp.clock ≤ clock_asked clock want
asked_passes clock (Read read) stamp member = absurd member
asked_passes clock (Append object view own) stamp member = latest_passes clock view stamp member
asked_passes clock Prepare stamp member = absurd member

told_passes : (clock : ℕ) (verdict : Outcome) (stamp : Stamp) → In stamp (stamps_told verdict)
    → stamp.clock ≤ clock_told clock verdict
told_passes clock (Committed told) stamp (inl same) = let is : stamp.clock ≡ told.clock =
    ap (λ (s : Stamp). s.clock) same in omega arith
told_passes clock (Committed told) stamp (inr member) = absurd member
told_passes clock Aborted stamp member = absurd member
told_passes clock Active stamp member = absurd member

after_passes : (clock : ℕ) (message : Message) (stamp : Stamp) → In stamp (stamps_in message)
    → stamp.clock ≤ clock_after clock message
after_passes clock (messages.Request tx epoch life want) stamp member = asked_passes clock want stamp member
after_passes clock (messages.Answer to answer) stamp member = absurd member
after_passes clock (messages.Decision tx verdict) stamp member = told_passes clock verdict stamp member
after_passes clock (messages.Inquiry tx) stamp member = absurd member
after_passes clock (messages.Ask tx) stamp member = absurd member
after_passes clock (messages.Close epoch) stamp member = absurd member
after_passes clock (messages.Install start) stamp member = latest_passes clock start.lines stamp member

pub clocks_never_fall : (decl : Declaration) (s : SiteState) (from number : ℕ) (message : Message)
    → s.clock ≤ (site_on decl s from number message).site.clock
clocks_never_fall decl s from number message =
    let on : clock_after s.clock message ≤ (site_on decl s from number message).site.clock =
    clock_on decl s from number message in
    let later : s.clock ≤ clock_after s.clock message = after_later s.clock message in
    omega (arith, on, later)

pub passes_stamps : (decl : Declaration) (s : SiteState) (from number : ℕ) (message : Message) (stamp : Stamp)
    → In stamp (stamps_in message) → stamp.clock ≤ (site_on decl s from number message).site.clock
passes_stamps decl s from number message stamp member =
    let on : clock_after s.clock message ≤ (site_on decl s from number message).site.clock =
    clock_on decl s from number message in
    let has : stamp.clock ≤ clock_after s.clock message = after_passes s.clock message stamp member in
    omega (arith, on, has)

-- over deeds

takes_later : (decl : Declaration) (s : SiteState) (g : Input) → s.clock ≤ (site_takes decl s g).site.clock
takes_later decl s (inputs.Called command) = omega arith
takes_later decl s (inputs.Got e) = clocks_never_fall decl s e.from e.number e.message
takes_later decl s (inputs.Lost number) = omega arith

does_later : (decl : Declaration) (m : SiteMove) (d : Deed) → m.site.clock ≤ (site_does decl m d).site.clock
does_later decl m (Takes g) = takes_later decl m.site g
does_later decl m (Writes written) = omega arith
does_later decl m (Sends number to message) = omega arith
does_later decl m (Tells reply) = omega arith
does_later decl m (Falls cause pending) = omega arith
does_later decl m (Rises records) = omega arith

deeds_later : (decl : Declaration) (m : SiteMove) (ds : List Deed)
    → m.site.clock ≤ (fold (site_does decl) m ds).site.clock
deeds_later decl m [] = omega arith
deeds_later decl m (d ∷ ds) =
    let here : m.site.clock ≤ (site_does decl m d).site.clock = does_later decl m d in
    let rest : (site_does decl m d).site.clock ≤ (fold (site_does decl) (site_does decl m d) ds).site.clock =
    deeds_later decl (site_does decl m d) ds in
    omega arith

takes_passes : (decl : Declaration) (s : SiteState) (g : Input) (stamp : Stamp) → In stamp (stamps_given g)
    → stamp.clock ≤ (site_takes decl s g).site.clock
takes_passes decl s (inputs.Called command) stamp member = absurd member
takes_passes decl s (inputs.Got e) stamp member = passes_stamps decl s e.from e.number e.message stamp member
takes_passes decl s (inputs.Lost number) stamp member = absurd member

does_passes : (decl : Declaration) (m : SiteMove) (d : Deed) (stamp : Stamp) → In stamp (stamps_at d)
    → stamp.clock ≤ (site_does decl m d).site.clock
does_passes decl m (Takes g) stamp member = takes_passes decl m.site g stamp member
does_passes decl m (Writes written) stamp member = absurd member
does_passes decl m (Sends number to message) stamp member = absurd member
does_passes decl m (Tells reply) stamp member = absurd member
does_passes decl m (Falls cause pending) stamp member = absurd member
does_passes decl m (Rises records) stamp member = absurd member

deeds_pass : (decl : Declaration) (m : SiteMove) (ds : List Deed) (stamp : Stamp) → In stamp (stamps_taken ds)
    → stamp.clock ≤ (fold (site_does decl) m ds).site.clock
deeds_pass decl m [] stamp member = absurd member
deeds_pass decl m (d ∷ ds) stamp member =
    by (In-either stamp (stamps_at d) (stamps_taken ds) member) (deeds_pass decl (site_does decl m d) ds stamp)
  where
    by : In stamp (stamps_at d) ⊎ In stamp (stamps_taken ds)
        → (In stamp (stamps_taken ds) → stamp.clock ≤ (fold (site_does decl) (site_does decl m d) ds).site.clock)
        → stamp.clock ≤ (fold (site_does decl) (site_does decl m d) ds).site.clock
    by (inl here) rest =
        let now : stamp.clock ≤ (site_does decl m d).site.clock = does_passes decl m d stamp here in
        let after : (site_does decl m d).site.clock ≤ (fold (site_does decl) (site_does decl m d) ds).site.clock =
        deeds_later decl (site_does decl m d) ds in
        omega arith
    by (inr later) rest = rest later

pub passes_all : (decl : Declaration) (number : ℕ) (ds : List Deed) (stamp : Stamp) → In stamp (stamps_taken ds)
    → stamp.clock ≤ (site_after decl number ds).site.clock
passes_all decl number ds stamp member = deeds_pass decl (moved (new_site number) quiet) ds stamp member
