-- Falls and rises keep what is kept.
use Rattle.std.proofs.Common.{◌≡◌, ℕ, ◌<◌, ◌==◌, Bool, true, false, if◌then◌else◌, List, [], ◌∷◌, ◌++◌, length, map}
use Rattle.std.proofs.Common.{Option, Some, None, refl, ap, sym, subst, ◌∙◌, append_assoc}
use Rattle.std.specs.Prelude.{set}
use Rattle.std.specs.List.{AllByRecursion as Every}
use Rattle.std.proofs.lemmas.List.{get_or-map, length-map, length-set}
use Rattle.qc_link.specs.Vocabulary.{most_actors}
use Rattle.qc_msg.specs.declared.record.Record.{Record}
use Rattle.qc_msg.specs.declared.reply.Reply.{Reply}
use Rattle.qc_msg.specs.declared.step.Fall.{Fall}
use Rattle.qc_msg.specs.declared.step.Fall.TheVariants as causes
use Rattle.qc_msg.specs.declared.step.Step.{Step}
use Rattle.qc_msg.specs.declared.step.Step.TheVariants.{Fell, Rose, Wrote}
use Rattle.qc_msg.specs.declared.turn.Appended.{Appended}
use Rattle.qc_msg.specs.declared.turn.Appended.TheVariants.{Done, Failed, Stopped}
use Rattle.qc_msg.specs.declared.turn.Posting.{Posting}
use Rattle.qc_msg.specs.declared.turn.Turn.{Turn}
use Rattle.qc_msg.specs.Vocabulary.{Entry, HasRecord, by, fell, mail, marked, posted_as, sends_as, sents, told, wrote}
use Rattle.qc_msg.proofs.GrownMail.{by-append}
use Rattle.qc_script.proofs.InboxesSend as opens
use Rattle.qc_script.specs.Vocabulary.{Inbox, actor_fell, control_acted, emptied, inbox, is_by_line, is_up, requests_to}
use Rattle.qc_script.specs.Vocabulary.{requests_to_others, with_lost}
use Rattle.qc_script.specs.declared.script.Script.{Script}
use Rattle.qc_mailbox.specs.Vocabulary.{Inboxes, IsKept, MayPost, Shows, Tray, after_fall, after_fall_by_line}
use Rattle.qc_mailbox.specs.Vocabulary.{after_post_as, after_reply, after_rise, after_rising_as, after_send}
use Rattle.qc_mailbox.specs.Vocabulary.{after_sends, calls_of, empty_tray, tray_at, tray_emptied, tray_losing, tray_of}
use Rattle.qc_mailbox.proofs.Acting.{turns_keep_trays, own_tray, replied, sent}
use Rattle.qc_mailbox.proofs.Controlling.{gone_shown, length-gone, shown_after}
use Rattle.qc_mailbox.proofs.Keeping.{kept_step}

-- an actor falls

fell_keeps : (a : ℕ) (i : Inbox) (r : ℕ) → opens.Keeps (record i { up = set i.up r false }) (actor_fell a i r)
fell_keeps a i r = by (r == a)
  where
    by : (t : Bool) → opens.Keeps (record i { up = set i.up r false })
        (emptied t (record i {
          up = set i.up r false;
          unanswered = requests_to_others r i.unanswered;
          lost = with_lost (requests_to r i.unanswered) i.lost;
        }))
    by true = record { cuts = refl; up = refl; controls = refl; from_each = refl; to_each = refl }
    by false = record { cuts = refl; up = refl; controls = refl; from_each = refl; to_each = refl }

fell_tray : (a calls : ℕ) (i : Inbox) (r : ℕ) (t : Bool) → (r == a) ≡ t
    → tray_of calls
    (emptied t (record i {
      up = set i.up r false;
      unanswered = requests_to_others r i.unanswered;
      lost = with_lost (requests_to r i.unanswered) i.lost;
    })) ≡ tray_of calls (actor_fell a i r)
fell_tray a calls i r t is =
    sym (ap (λ (u : Bool). tray_of calls (emptied u
    (record i {
      up = set i.up r false;
      unanswered = requests_to_others r i.unanswered;
      lost = with_lost (requests_to r i.unanswered) i.lost;
    }))) is)

pub length-fall : (kept : Inboxes) (r : ℕ) → length kept.trays ≡ most_actors
    → length (after_fall kept r).trays ≡ most_actors
length-fall kept r long = length-set (map (tray_losing r) kept.trays) r _
    ∙ (length-map kept.trays (tray_losing r) ∙ long)

fell_shown : (kept : Inboxes) (a calls : ℕ) (i : Inbox) (r : ℕ) → length kept.trays ≡ most_actors → a < most_actors
    → r < most_actors → Shows kept a calls i
    → Shows (after_fall kept r) a calls (actor_fell a i r)
fell_shown kept a calls i r long a_within r_within shows =
    let keeps : opens.Keeps (record i { up = set i.up r false }) (actor_fell a i r) = fell_keeps a i r in
    let at : tray_at (map (tray_losing r) kept.trays) a ≡ tray_losing r (tray_of calls i) =
    get_or-map (tray_losing r) kept.trays a empty_tray empty_tray (subst (λ (n : ℕ). a < n) (sym long) a_within)
    ∙ ap (λ (t : Tray). tray_losing r t) shows.tray in
    shown_after kept (after_fall kept r) a calls calls i (actor_fell a i r) shows keeps.from_each keeps.to_each refl
    (keeps.cuts ∙ shows.cuts)
    (keeps.up ∙ ap (λ (up : List Bool). set up r false) shows.up)
    (keeps.controls ∙ shows.controls)
    (own_tray (map (tray_losing r) kept.trays) r a tray_emptied (tray_losing r (tray_of calls i))
    (tray_of calls (actor_fell a i r))
    (subst (λ (n : ℕ). r < n) (sym (length-map kept.trays (tray_losing r) ∙ long)) r_within) at
    (λ here. fell_tray a calls i r true here)
    (λ other. fell_tray a calls i r false other))

module _ (script : Script) (h : List Entry) (old : Inboxes) (r : ℕ) (cause : Fall) (pending : Option Record)
    (kept : IsKept script h old) (within : r < most_actors) where
  by_line : (b : ℕ) → Shows old b (calls_of b h) (inbox script b h)
      → is_by_line (is_up (inbox script b h).up r) cause ≡ is_by_line (is_up old.up r) cause
  by_line b shows = ap (λ (up : List Bool). is_by_line (is_up up r) cause) shows.up

  -- in a post
  pub kept_fall : is_by_line (is_up old.up r) cause ≡ false
      → IsKept script (h ++ marked r (Fell cause pending) ∷ []) (after_fall old r)
  kept_fall is =
      kept_step script h (marked r (Fell cause pending)) old (after_fall old r) kept refl refl refl
      (length-set old.up r false ∙ kept.ups) (length-fall old r kept.trays)
      (λ b b_within shows.
      subst (λ (t : Bool). Shows (after_fall old r) b (calls_of b h)
      (if t then control_acted b (actor_fell b (inbox script b h) r) else actor_fell b (inbox script b h) r))
      (sym (by_line b shows ∙ is))
      (fell_shown old b (calls_of b h) (inbox script b h) r kept.trays b_within within shows))

  -- by the line that is next
  pub falls_by_lines_keep_trays : is_by_line (is_up old.up r) cause ≡ true
      → IsKept script (h ++ marked r (Fell cause pending) ∷ []) (after_fall_by_line old r)
  falls_by_lines_keep_trays is =
      kept_step script h (marked r (Fell cause pending)) old (after_fall_by_line old r) kept refl refl refl
      (length-set old.up r false ∙ kept.ups) (length-gone (after_fall old r) (length-fall old r kept.trays))
      (λ b b_within shows.
      subst (λ (t : Bool). Shows (after_fall_by_line old r) b (calls_of b h)
      (if t then control_acted b (actor_fell b (inbox script b h) r) else actor_fell b (inbox script b h) r))
      (sym (by_line b shows ∙ is))
      (gone_shown (after_fall old r) b (calls_of b h) (actor_fell b (inbox script b h) r)
      (length-fall old r kept.trays) b_within
      (fell_shown old b (calls_of b h) (inbox script b h) r kept.trays b_within within shows)))

-- what a turn sends and tells

same_up : (old : Inboxes) (a : ℕ) (ps : List Posting) → (after_sends old a ps).up ≡ old.up
same_up old a [] = refl
same_up old a (p ∷ ps) = same_up (after_send old a p) a ps

told_up : (old : Inboxes) (a : ℕ) (reply : Option Reply) → (after_reply old a reply).up ≡ old.up
told_up old a None = refl
told_up old a (Some reply) = refl

abbrev after_said : Inboxes → ℕ → List Posting → Option Reply → Inboxes
after_said old a ps reply = after_reply (after_sends old a ps) a reply

said_up : (old : Inboxes) (a : ℕ) (ps : List Posting) (reply : Option Reply) → (after_said old a ps reply).up ≡ old.up
said_up old a ps reply = told_up (after_sends old a ps) a reply ∙ same_up old a ps

said : (script : Script) (h : List Entry) (old : Inboxes) (a : ℕ) (ps : List Posting) (reply : Option Reply)
    → IsKept script h old → a < most_actors → Every (λ (p : Posting). p.to < most_actors) ps
    → IsKept script (h ++ by a (sents old.counts.all ps ++ told reply)) (after_said old a ps reply)
said script h old a ps reply kept within receivers =
    subst (λ (x : List Entry). IsKept script x (after_said old a ps reply))
    (append_assoc h (by a (sents old.counts.all ps)) (by a (told reply))
    ∙ ap (λ (x : List Entry). h ++ x) (sym (by-append a (sents old.counts.all ps) (told reply))))
    (replied script (h ++ by a (sents old.counts.all ps)) (after_sends old a ps) a reply
    (sent script h old a ps kept within receivers) within)

-- and then falls
ends_with : (h : List Entry) (a : ℕ) (xs ys : List Step) (cause : Fall) (pending : Option Record)
    → (h ++ by a (xs ++ ys)) ++ marked a (Fell cause pending) ∷ [] ≡ h ++ by a (xs ++ (ys ++ fell cause pending))
ends_with h a xs ys cause pending =
    append_assoc h (by a (xs ++ ys)) (marked a (Fell cause pending) ∷ [])
    ∙ ap (λ (x : List Entry). h ++ x) (sym (by-append a (xs ++ ys) (fell cause pending))
    ∙ ap (λ (x : List Step). by a x) (append_assoc xs ys (fell cause pending)))

-- where the record isn't written, its disk or a stop is the cause

abbrev cause_of : Appended → Fall
cause_of Done = causes.Disk
cause_of Failed = causes.Disk
cause_of Stopped = causes.Stop

not_by_line : (end : Appended) (up : Bool) → up ≡ true → is_by_line up (cause_of end) ≡ false
not_by_line Done up is = ap (λ (u : Bool). is_by_line u causes.Disk) is
not_by_line Failed up is = ap (λ (u : Bool). is_by_line u causes.Disk) is
not_by_line Stopped up is = ap (λ (u : Bool). is_by_line u causes.Stop) is

is_line : (end : Appended) (up : Bool) → up ≡ false → is_by_line up (cause_of end) ≡ true
is_line Done up is = ap (λ (u : Bool). is_by_line u causes.Disk) is
is_line Failed up is = ap (λ (u : Bool). is_by_line u causes.Disk) is
is_line Stopped up is = ap (λ (u : Bool). is_by_line u causes.Stop) is

module _ (script : Script) (h : List Entry) (old : Inboxes) (a : ℕ) (turn : Turn) (kept : IsKept script h old)
    (within : a < most_actors) where
  here : (ps : List Posting) (reply : Option Reply) (v : Bool) → is_up old.up a ≡ v
      → is_up (after_said old a ps reply).up a ≡ v
  here ps reply v is = ap (λ (up : List Bool). is_up up a) (said_up old a ps reply) ∙ is

  falls : (end : Appended) (ps : List Posting) (reply : Option Reply) → Every (λ (p : Posting). p.to < most_actors) ps
      → is_up old.up a ≡ true
      → IsKept script (h ++ by a (sents old.counts.all ps ++ (told reply ++ fell (cause_of end) turn.write)))
      (after_fall (after_said old a ps reply) a)
  falls end ps reply receivers up =
      subst (λ (x : List Entry). IsKept script x (after_fall (after_said old a ps reply) a))
      (ends_with h a (sents old.counts.all ps) (told reply) (cause_of end) turn.write)
      (kept_fall script (h ++ by a (sents old.counts.all ps ++ told reply)) (after_said old a ps reply) a
      (cause_of end) turn.write (said script h old a ps reply kept within receivers) within
      (not_by_line end (is_up (after_said old a ps reply).up a) (here ps reply true up)))

  falls_by_line : (end : Appended) (ps : List Posting) (reply : Option Reply)
      → Every (λ (p : Posting). p.to < most_actors) ps → is_up old.up a ≡ false
      → IsKept script (h ++ by a (sents old.counts.all ps ++ (told reply ++ fell (cause_of end) turn.write)))
      (after_fall_by_line (after_said old a ps reply) a)
  falls_by_line end ps reply receivers down =
      subst (λ (x : List Entry). IsKept script x (after_fall_by_line (after_said old a ps reply) a))
      (ends_with h a (sents old.counts.all ps) (told reply) (cause_of end) turn.write)
      (falls_by_lines_keep_trays script (h ++ by a (sents old.counts.all ps ++ told reply)) (after_said old a ps reply)
      a
      (cause_of end) turn.write (said script h old a ps reply kept within receivers) within
      (is_line end (is_up (after_said old a ps reply).up a) (here ps reply false down)))

  posts_as : (end : Appended) → Every (λ (p : Posting). p.to < most_actors) (sends_as end turn)
      → MayPost (is_up old.up a) end turn.write
      → IsKept script (h ++ by a (posted_as end (length (mail h)) turn)) (after_post_as end old a turn)
  posts_as Done receivers may = turns_keep_trays script h old a turn kept within receivers may
  posts_as Failed receivers may = subst (λ (n : ℕ). IsKept script (h ++ by a (posted_as Failed n turn))
      (after_post_as Failed old a turn)) kept.sent (falls Failed turn.failed_sends turn.failed_told receivers may)
  posts_as Stopped receivers may = falls Stopped [] turn.failed_told receivers may

-- an actor posts a turn
pub posts_keep_trays : (script : Script) (h : List Entry) (old : Inboxes) (a : ℕ) (turn : Turn) → IsKept script h old
    → a < most_actors → Every (λ (p : Posting). p.to < most_actors) (sends_as turn.append turn)
    → MayPost (is_up old.up a) turn.append turn.write
    → IsKept script (h ++ by a (posted_as turn.append (length (mail h)) turn))
    (after_post_as turn.append old a turn)
posts_keep_trays script h old a turn kept within receivers may =
    posts_as script h old a turn kept within turn.append receivers may

-- an actor rises

rose : (script : Script) (h : List Entry) (old : Inboxes) (a : ℕ) (records : List Record) → IsKept script h old
    → IsKept script (h ++ marked a (Rose records) ∷ []) old
rose script h old a records kept = kept_step script h
    (marked a (Rose records)) old old kept refl refl refl kept.ups kept.trays (λ b within shows. shows)

risen_shown : (old : Inboxes) (a calls : ℕ) (i : Inbox) (r : ℕ) → Shows old a calls i
    → Shows (record old { up = set old.up r true }) a calls (record i { up = set i.up r true })
risen_shown old a calls i r shows =
    shown_after old (record old { up = set old.up r true }) a calls calls i
    (record i { up = set i.up r true }) shows refl refl refl shows.cuts
    (ap (λ (up : List Bool). set up r true) shows.up) shows.controls shows.tray

wrote_rise : (script : Script) (h : List Entry) (old : Inboxes) (a : ℕ) (w : Record) → IsKept script h old
    → is_up old.up a ≡ false → IsKept script (h ++ marked a (Wrote w) ∷ []) (after_rise old a)
wrote_rise script h old a w kept down =
    kept_step script h (marked a (Wrote w)) old (after_rise old a) kept refl refl refl
    (length-set old.up a true ∙ kept.ups) (length-gone (record old { up = set old.up a true }) kept.trays)
    (λ b within shows.
    subst (λ (t : Bool). Shows (after_rise old a) b (calls_of b h)
    (if t then inbox script b h else control_acted b
    (record (inbox script b h) { up = set (inbox script b h).up a true })))
    (sym (ap (λ (up : List Bool). is_up up a) shows.up ∙ down))
    (gone_shown (record old { up = set old.up a true }) b (calls_of b h)
    (record (inbox script b h) { up = set (inbox script b h).up a true }) kept.trays within
    (risen_shown old b (calls_of b h) (inbox script b h) a shows)))

module _ (script : Script) (h : List Entry) (old : Inboxes) (a : ℕ) (records : List Record) (turn : Turn)
    (kept : IsKept script h old) (within : a < most_actors) (down : is_up old.up a ≡ false) where
  abbrev rising : List Entry
  rising = h ++ marked a (Rose records) ∷ []

  after_rose : (xs : List Step) → rising ++ by a xs ≡ h ++ by a (Rose records ∷ xs)
  after_rose xs = append_assoc h (marked a (Rose records) ∷ []) (by a xs)

  writes : (write : Option Record) → HasRecord write → Every (λ (p : Posting). p.to < most_actors) turn.sends
      → IsKept script (rising ++ by a (wrote write ++ (sents old.counts.all turn.sends ++ told turn.told)))
      (after_said (after_rise old a) a turn.sends turn.told)
  writes None has receivers = absurd has
  writes (Some w) has receivers =
      subst (λ (x : List Entry). IsKept script x (after_said (after_rise old a) a turn.sends turn.told))
      (append_assoc rising (marked a (Wrote w) ∷ []) (by a (sents old.counts.all turn.sends ++ told turn.told)))
      (said script (rising ++ marked a (Wrote w) ∷ []) (after_rise old a) a turn.sends turn.told
      (wrote_rise script rising old a w (rose script h old a records kept) down) within receivers)

  rises_as : (end : Appended) → HasRecord turn.write → Every (λ (p : Posting). p.to < most_actors) (sends_as end turn)
      → IsKept script (rising ++ by a (posted_as end old.counts.all turn)) (after_rising_as end old a turn)
  rises_as Done has receivers = writes turn.write has receivers
  rises_as Failed has receivers = falls_by_line script rising old a turn
      (rose script h old a records kept) within Failed turn.failed_sends turn.failed_told receivers down
  rises_as Stopped has receivers = falls_by_line script rising old a turn
      (rose script h old a records kept) within Stopped [] turn.failed_told receivers down

-- an actor that is down rises and posts its rising turn, which has a record
pub rises_keep_trays : (script : Script) (h : List Entry) (old : Inboxes) (a : ℕ) (records : List Record) (turn : Turn)
    → IsKept script h old → a < most_actors → is_up old.up a ≡ false → HasRecord turn.write
    → Every (λ (p : Posting). p.to < most_actors) (sends_as turn.append turn)
    → IsKept script (h ++ by a (Rose records ∷ posted_as turn.append (length (mail h)) turn))
    (after_rising_as turn.append old a turn)
rises_keep_trays script h old a records turn kept within down has receivers =
    subst (λ (n : ℕ). IsKept script (h ++ by a (Rose records ∷ posted_as turn.append n turn))
    (after_rising_as turn.append old a turn)) kept.sent
    (subst (λ (x : List Entry). IsKept script x (after_rising_as turn.append old a turn))
    (after_rose script h old a records turn kept within down (posted_as turn.append old.counts.all turn))
    (rises_as script h old a records turn kept within down turn.append has receivers))

-- who is up
pub trays_know_who_is_up : (script : Script) (h : List Entry) (kept : Inboxes) (a : ℕ) → IsKept script h kept
    → a < most_actors
    → (inbox script a h).up ≡ kept.up
trays_know_who_is_up script h kept a is within =
    let shows : Shows kept a (calls_of a h) (inbox script a h) = is.inboxes a within in
    shows.up
