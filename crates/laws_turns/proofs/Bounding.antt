-- Every clock and count in a history is at most its number of steps.
use Rattle.std.proofs.Common.{◌≡◌, ℕ, ◌+◌, ◌-◌, ◌≤◌, ◌==◌, Bool, true, false, cond, List, [], ◌∷◌, ◌++◌, fold, length}
use Rattle.std.proofs.Common.{Option, Some, None, eqb-true, refl, sym, ap, ◌∙◌, subst, arith, length-append}
use Rattle.std.specs.List.{AllByRecursion as Every}
use Rattle.std.proofs.lemmas.List.{append-nil}
use Rattle.std.proofs.lemmas.List.Sums.{fold-append}
use Rattle.qc_list.proofs.Members.{every-append, every-at}
use Rattle.qc_decl.specs.declared.declaration.Declaration.{Declaration}
use Rattle.qc_decl.specs.Vocabulary.{is_client, is_site}
use Rattle.qc_msg.specs.declared.message.Envelope.{Envelope}
use Rattle.qc_msg.specs.declared.record.Record.{Record}
use Rattle.qc_msg.specs.declared.reply.Reply.{Reply}
use Rattle.qc_msg.specs.declared.step.Input.{Input}
use Rattle.qc_msg.specs.declared.step.Input.TheVariants as inputs
use Rattle.qc_msg.specs.declared.step.Step.{Step}
use Rattle.qc_msg.specs.declared.turn.Posting.{Posting}
use Rattle.qc_msg.specs.declared.turn.Turn.{Turn}
use Rattle.qc_msg.specs.Vocabulary.{Deed, Entry, Falls, Rises, Sends, Takes, Tells, WasSentTo, Writes, by, deed_at}
use Rattle.qc_msg.specs.Vocabulary.{deeds, envelopes, mail, marked, posted, quiet, sends_of, step_of, tells_of}
use Rattle.qc_msg.specs.Vocabulary.{turn_deeds, writes_of}
use Rattle.qc_msg.proofs.GrownMail.{length-mail, mail-append, mail-posted, mail-taken}
use Rattle.qc_msg.proofs.DeedsGrow.{deeds-append, deeds-other}
use Rattle.qc_msg.proofs.Growth.{deeds-posted, deeds-taken}
use Rattle.qc_client.specs.Vocabulary.{ClientMove, client_after, client_does, moved as client_moved, new_client}
use Rattle.qc_core.specs.Vocabulary.{IsLawful}
use Rattle.qc_site.specs.Vocabulary.{SiteMove, moved as site_moved, new_site, site_after, site_does, site_takes}
use Rattle.laws_turns.specs.Vocabulary.{ClientMoveWithin, GivenWithin, IsBounded, MailWithin, MessageWithin}
use Rattle.laws_turns.specs.Vocabulary.{SendsWithin, SiteMoveWithin}
use Rattle.laws_turns.proofs.Events.{Events, IsControl, begins, controls, posts, takes}
use Rattle.laws_turns.proofs.ClientsWithin.{IsPost, all_posts-within, client_move-le, client_takes_within}
use Rattle.laws_turns.proofs.Greater.{mail_le}
use Rattle.laws_turns.proofs.SitesWithin.{site_move-le, site_takes_within}

-- a turn's deeds are no inputs

talk-posts : (n : ℕ) (ps : List Posting) (told : Option Reply) → Every IsPost (sends_of n ps ++ tells_of told)
talk-posts n [] None = tt
talk-posts n [] (Some reply) = (tt, tt)
talk-posts n (p ∷ ps) told = (tt, talk-posts (n + 1) ps told)

pub turn-posts : (n : ℕ) (turn : Turn) → Every IsPost (turn_deeds n turn)
turn-posts n turn = by turn.write where
  by : (w : Option Record) → Every IsPost (writes_of w ++ (sends_of n turn.sends ++ tells_of turn.told))
  by None = talk-posts n turn.sends turn.told
  by (Some written) = (tt, talk-posts n turn.sends turn.told)

-- a site stays as it is

pub site_posts : (decl : Declaration) (m : SiteMove) (ds : List Deed) → Every IsPost ds → fold (site_does decl) m ds ≡ m
site_posts decl m [] all = refl
site_posts decl m (Takes g ∷ ds) all = absurd all.0
site_posts decl m (Writes written ∷ ds) all = site_posts decl m ds all.1
site_posts decl m (Sends number to message ∷ ds) all = site_posts decl m ds all.1
site_posts decl m (Tells reply ∷ ds) all = site_posts decl m ds all.1
site_posts decl m (Falls cause pending ∷ ds) all = site_posts decl m ds all.1
site_posts decl m (Rises records ∷ ds) all = site_posts decl m ds all.1

-- what was sent to an actor is within the bound of all messages
pub given-within : (bound a : ℕ) (ms : List Envelope) (g : Input) → MailWithin bound ms → WasSentTo a ms g
    → GivenWithin bound g
given-within bound a ms (inputs.Called command) all sent = tt
given-within bound a ms (inputs.Got e) all sent =
    every-at (λ (e : Envelope). MessageWithin bound e.message) ms e.number e all sent.0
given-within bound a ms (inputs.Lost number) all sent = tt

pub posted-within : (bound from n : ℕ) (ps : List Posting) → SendsWithin bound ps
    → MailWithin bound (envelopes from n ps)
posted-within bound from n [] all = tt
posted-within bound from n (p ∷ ps) all = (all.0, posted-within bound from (n + 1) ps all.1)

-- the bounds of a history, without its number of messages
pub record Held (decl : Declaration) (bound : ℕ) (h : List Entry) : Type 0 where
  pub messages : MailWithin bound (mail h)
  pub sites : (a : ℕ) → SiteMoveWithin bound (site_after decl a (deeds a [] h))
  pub clients : (a : ℕ) → ClientMoveWithin bound (client_after decl (a - decl.sites) (deeds a [] h))

held-le : (decl : Declaration) (low high : ℕ) (h : List Entry) → low ≤ high → Held decl low h → Held decl high h
held-le decl low high h le held = record {
  messages = mail_le low high le (mail h) held.messages;
  sites = λ a. site_move-le low high (site_after decl a (deeds a [] h)) le (held.sites a);
  clients = λ a. client_move-le low high (client_after decl (a - decl.sites) (deeds a [] h)) le (held.clients a);
}

-- an actor takes an input

module _ (decl : Declaration) (h : List Entry) (bound : ℕ) (held : Held decl bound h) (b : ℕ) (g : Input)
    (sent : WasSentTo b (mail h) g) where
  own_site : SiteMoveWithin (bound + 1) (site_after decl b (deeds b [] (h ++ marked b (step_of g) ∷ [])))
  own_site =
      subst (λ (m : SiteMove). SiteMoveWithin (bound + 1) m)
      (sym (ap (site_after decl b) (deeds-taken b h g sent)
      ∙ fold-append (site_does decl) (site_moved (new_site b) quiet) (deeds b [] h) (Takes g ∷ [])))
      (site_move-le bound (bound + 1) (site_takes decl (site_after decl b (deeds b [] h)).site g) (omega arith)
      (site_takes_within bound decl (site_after decl b (deeds b [] h)).site g (held.sites b).site
      (given-within bound b (mail h) g held.messages sent)))

  own_client : ClientMoveWithin (bound + 1)
      (client_after decl (b - decl.sites) (deeds b [] (h ++ marked b (step_of g) ∷ [])))
  own_client =
      subst (λ (m : ClientMove). ClientMoveWithin (bound + 1) m)
      (sym (ap (client_after decl (b - decl.sites)) (deeds-taken b h g sent)
      ∙ fold-append (client_does decl) (client_moved (new_client (b - decl.sites)) quiet) (deeds b [] h)
      (Takes g ∷ [])))
      (client_takes_within bound decl (client_after decl (b - decl.sites) (deeds b [] h)).client
      (held.clients b).client g (given-within bound b (mail h) g held.messages sent))

  takes_held : Held decl (bound + 1) (h ++ marked b (step_of g) ∷ [])
  takes_held = record {
    messages = subst (λ (v : List Envelope). MailWithin (bound + 1) v) (sym (mail-taken h b g))
        (mail_le bound (bound + 1) (omega arith) (mail h) held.messages);
    sites = λ a. site_by a (b == a) refl;
    clients = λ a. client_by a (b == a) refl;
  } where
    site_by : (a : ℕ) (t : Bool) → (b == a) ≡ t
        → SiteMoveWithin (bound + 1) (site_after decl a (deeds a [] (h ++ marked b (step_of g) ∷ [])))
    site_by a true is = subst (λ (k : ℕ). SiteMoveWithin (bound + 1)
        (site_after decl k (deeds k [] (h ++ marked b (step_of g) ∷ [])))) (eqb-true b a is) own_site
    site_by a false other =
        subst (λ (ds : List Deed). SiteMoveWithin (bound + 1) (site_after decl a ds))
        (sym (deeds-other b a [] h (step_of g ∷ []) other))
        (site_move-le bound (bound + 1) (site_after decl a (deeds a [] h)) (omega arith) (held.sites a))

    client_by : (a : ℕ) (t : Bool) → (b == a) ≡ t
        → ClientMoveWithin (bound + 1) (client_after decl (a - decl.sites)
        (deeds a [] (h ++ marked b (step_of g) ∷ [])))
    client_by a true is = subst (λ (k : ℕ). ClientMoveWithin (bound + 1)
        (client_after decl (k - decl.sites) (deeds k [] (h ++ marked b (step_of g) ∷ [])))) (eqb-true b a is) own_client
    client_by a false other =
        subst (λ (ds : List Deed). ClientMoveWithin (bound + 1) (client_after decl (a - decl.sites) ds))
        (sym (deeds-other b a [] h (step_of g ∷ []) other))
        (client_move-le bound (bound + 1) (client_after decl (a - decl.sites) (deeds a [] h)) (omega arith)
        (held.clients a))

-- an actor posts its turn

-- a lawful turn is that of a site, or that of a client
pub lawful_turn : (P : Turn → Type 0) (decl : Declaration) (a : ℕ) (ds : List Deed) (turn : Turn)
    → IsLawful decl a ds turn
    → (is_site decl a ≡ true → P (site_after decl a ds).turn)
    → (is_site decl a ≡ false → is_client decl a ≡ true → P (client_after decl (a - decl.sites) ds).turn) → P turn
lawful_turn P decl a ds turn lawful site client = by (is_site decl a) refl (is_client decl a) refl lawful where
  by : (s : Bool) → is_site decl a ≡ s → (c : Bool) → is_client decl a ≡ c
      → cond s (Some (site_after decl a ds).turn) (cond c (Some (client_after decl (a - decl.sites) ds).turn) None)
      ≡ Some turn → P turn
  by true is c named same = let it : (site_after decl a ds).turn ≡ turn = cc in subst P it (site is)
  by false is true named same = let it : (client_after decl (a - decl.sites) ds).turn ≡ turn = cc in
      subst P it (client is named)
  by false is false named never = absurd (let no : ⊥ = cc in no)

module _ (decl : Declaration) (h : List Entry) (bound : ℕ) (held : Held decl bound h) (b : ℕ) (turn : Turn)
    (lawful : IsLawful decl b (deeds b [] h) turn) where
  sends : SendsWithin bound turn.sends
  sends = lawful_turn (λ (t : Turn). SendsWithin bound t.sends) decl b (deeds b [] h) turn lawful
      (λ is. (held.sites b).sends) (λ is named. (held.clients b).sends)

  posts_held : Held decl bound (h ++ by b (posted (length (mail h)) turn))
  posts_held = record {
    messages =
        subst (λ (v : List Envelope). MailWithin bound v)
        (sym (mail-append h (by b (posted (length (mail h)) turn))
        ∙ ap (λ (v : List Envelope). mail h ++ v) (mail-posted b (length (mail h)) turn)))
        (every-append (λ (e : Envelope). MessageWithin bound e.message) (mail h)
        (envelopes b (length (mail h)) turn.sends) held.messages
        (posted-within bound b (length (mail h)) turn.sends sends));
    sites = λ a. site_by a (b == a) refl;
    clients = λ a. client_by a (b == a) refl;
  } where
    same : Every IsPost (turn_deeds (length (mail h)) turn)
    same = turn-posts (length (mail h)) turn

    site_own : SiteMoveWithin bound (site_after decl b (deeds b [] (h ++ by b (posted (length (mail h)) turn))))
    site_own =
        subst (λ (m : SiteMove). SiteMoveWithin bound m)
        (sym (ap (site_after decl b) (deeds-posted b (length (mail h)) h turn)
        ∙ fold-append (site_does decl) (site_moved (new_site b) quiet) (deeds b [] h)
        (turn_deeds (length (mail h)) turn)
        ∙ site_posts decl (site_after decl b (deeds b [] h)) (turn_deeds (length (mail h)) turn) same))
        (held.sites b)

    client_own : ClientMoveWithin bound (client_after decl (b - decl.sites)
        (deeds b [] (h ++ by b (posted (length (mail h)) turn))))
    client_own =
        subst (λ (m : ClientMove). ClientMoveWithin bound m)
        (sym (ap (client_after decl (b - decl.sites)) (deeds-posted b (length (mail h)) h turn)
        ∙ fold-append (client_does decl) (client_moved (new_client (b - decl.sites)) quiet) (deeds b [] h)
        (turn_deeds (length (mail h)) turn)))
        (all_posts-within bound decl (client_after decl (b - decl.sites) (deeds b [] h))
        (turn_deeds (length (mail h)) turn) same (held.clients b))

    site_by : (a : ℕ) (t : Bool) → (b == a) ≡ t
        → SiteMoveWithin bound (site_after decl a (deeds a [] (h ++ by b (posted (length (mail h)) turn))))
    site_by a true is = subst (λ (k : ℕ). SiteMoveWithin bound
        (site_after decl k (deeds k [] (h ++ by b (posted (length (mail h)) turn))))) (eqb-true b a is) site_own
    site_by a false other = subst (λ (ds : List Deed). SiteMoveWithin bound (site_after decl a ds))
        (sym (deeds-other b a [] h (posted (length (mail h)) turn) other)) (held.sites a)

    client_by : (a : ℕ) (t : Bool) → (b == a) ≡ t
        → ClientMoveWithin bound (client_after decl (a - decl.sites)
        (deeds a [] (h ++ by b (posted (length (mail h)) turn))))
    client_by a true is = subst (λ (k : ℕ). ClientMoveWithin bound
        (client_after decl (k - decl.sites) (deeds k [] (h ++ by b (posted (length (mail h)) turn)))))
        (eqb-true b a is) client_own
    client_by a false other = subst (λ (ds : List Deed). ClientMoveWithin bound (client_after decl (a - decl.sites) ds))
        (sym (deeds-other b a [] h (posted (length (mail h)) turn) other)) (held.clients a)

-- the controller acts

pub control-deeds : (a b : ℕ) (h : List Entry) (step : Step) → IsControl b step
    → deeds a [] (h ++ marked b step ∷ []) ≡ deeds a [] h
control-deeds a b h step is =
    deeds-append a [] h (marked b step ∷ [])
    ∙ ap (λ (v : List Deed). deeds a [] h ++ v) (by (b == a))
    ∙ append-nil (deeds a [] h)
  where
    by : (t : Bool) → cond t (deed_at (mail h) step) [] ++ [] ≡ []
    by true = ap (λ (v : List Deed). v ++ []) (is.undone (mail h))
    by false = refl

pub control-mail : (b : ℕ) (h : List Entry) (step : Step) → IsControl b step → mail (h ++ marked b step ∷ []) ≡ mail h
control-mail b h step is = mail-append h (marked b step ∷ []) ∙ ap (λ (v : List Envelope). mail h ++ v) none
    ∙ append-nil (mail h) where
      none : mail (marked b step ∷ []) ≡ []
      none = rw is.unsent refl

control_held : (decl : Declaration) (h : List Entry) (bound : ℕ) (b : ℕ) (step : Step) → IsControl b step
    → Held decl bound h → Held decl bound (h ++ marked b step ∷ [])
control_held decl h bound b step is held = record {
  messages = subst (λ (v : List Envelope). MailWithin bound v) (sym (control-mail b h step is)) held.messages;
  sites = λ a. subst (λ (ds : List Deed). SiteMoveWithin bound (site_after decl a ds))
      (sym (control-deeds a b h step is)) (held.sites a);
  clients = λ a. subst (λ (ds : List Deed). ClientMoveWithin bound (client_after decl (a - decl.sites) ds))
      (sym (control-deeds a b h step is)) (held.clients a);
}

-- every history that goes event by event
pub all-held : (decl : Declaration) (h : List Entry) → Events decl h → Held decl (length h) h
all-held decl h begins = record {
  messages = tt;
  sites =
      λ a. record {
        site = record { clock = omega arith; began = tt; log = tt; arrived = tt; prepared = tt };
        sends = tt;
      };
  clients = λ a. record {
    client = record {
      front = record { clock = omega arith; count = omega arith; views = tt };
      desk = record { clock = omega arith; commits = tt };
    };
    sends = tt;
  };
}
all-held decl h (takes b g k events sent) =
    subst (λ (n : ℕ). Held decl n (k ++ marked b (step_of g) ∷ [])) (sym (length-append k (marked b (step_of g) ∷ [])))
    (takes_held decl k (length k) (all-held decl k events) b g sent)
all-held decl h (posts b turn k events lawful) =
    let le : length k ≤ length (k ++ by b (posted (length (mail k)) turn)) =
    omega (arith, length-append k (by b (posted (length (mail k)) turn))) in
    held-le decl (length k) _ _ le (posts_held decl k (length k) (all-held decl k events) b turn lawful)
all-held decl h (controls b step k events is) =
    let le : length k ≤ length (k ++ marked b step ∷ []) = omega (arith, length-append k (marked b step ∷ [])) in
    held-le decl (length k) _ _ le (control_held decl k (length k) b step is (all-held decl k events))

pub all_bounded : (decl : Declaration) (h : List Entry) → Events decl h → IsBounded decl (length h) h
all_bounded decl h events =
    let held : Held decl (length h) h = all-held decl h events in
    record { count = length-mail h; messages = held.messages; sites = held.sites; clients = held.clients }
