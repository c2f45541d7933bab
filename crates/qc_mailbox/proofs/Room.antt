-- How the room of mailboxes goes on, where one of them is changed.
use Rattle.std.proofs.Common.{◌≡◌, ℕ, ◌+◌, ◌<◌, ◌≤◌, List, ap, sym, ◌∙◌, arith, length, get_or, map, set, subst}
use Rattle.std.specs.List.{AllByRecursion as Every}
use Rattle.qc_mailbox.specs.Vocabulary.{Tray, empty_tray, tray_at, HasOthers, HasRoom, HasUsed, IsPrepared, spare, tray}
use Rattle.qc_mailbox.specs.declared.mailbox.Mailbox.{Mailbox}
use Rattle.qc_mailbox.proofs.Each.{every_get, every_less, every_set, every_weaker, map_changed, map_same}

room_left : (used room : ℕ) (old new : Mailbox) → HasUsed used old new → HasRoom (room + used) old → HasRoom room new
room_left used room old new u r = record {
  copies = omega (arith, u.copies, r.copies);
  opening = omega (arith, u.opening, r.opening);
  late = omega (arith, u.late, r.late);
  unanswered = omega (arith, u.unanswered, r.unanswered);
  lost = omega (arith, u.lost, r.lost);
}

weaker : (more few : ℕ) (m : Mailbox) → few ≤ more → HasRoom more m → HasRoom few m
weaker more few m le r = record {
  copies = omega (arith, le, r.copies);
  opening = omega (arith, le, r.opening);
  late = omega (arith, le, r.late);
  unanswered = omega (arith, le, r.unanswered);
  lost = omega (arith, le, r.lost);
}

room_less : (used room : ℕ) (m : Mailbox) → HasRoom (room + used) m → HasRoom room m
room_less used room m r = weaker (room + used) room m (omega arith) r

pub room_kept : (room : ℕ) (old new : Mailbox) → HasUsed 0 old new → HasRoom room old → HasRoom room new
room_kept room old new u r = record {
  copies = omega (arith, u.copies, r.copies);
  opening = omega (arith, u.opening, r.opening);
  late = omega (arith, u.late, r.late);
  unanswered = omega (arith, u.unanswered, r.unanswered);
  lost = omega (arith, u.lost, r.lost);
}

pub less_room : (more few : ℕ) (boxes : List Mailbox) → few ≤ more → Every (HasRoom more) boxes
    → Every (HasRoom few) boxes
less_room more few boxes le all = every_weaker (HasRoom more) (HasRoom few) boxes (λ m r. weaker more few m le r) all

pub some_room : (room : ℕ) (boxes : List Mailbox) → Every (HasRoom room) boxes → Every (HasRoom 0) boxes
some_room room boxes all = less_room room 0 boxes (omega arith) all

-- one mailbox is changed, and used some of its room

module _ (boxes : List Mailbox) (a : ℕ) (old new : Mailbox) (within : a < length boxes)
    (is : old ≡ get_or boxes a old) where
  pub at : (P : Mailbox → Type 0) → Every P boxes → P old
  at P all = subst P (sym is) (every_get P boxes a old all within)

  pub used_set : (used room : ℕ) → HasUsed used old new → Every (HasRoom (room + used)) boxes
      → Every (HasRoom room) (set boxes a new)
  used_set used room u all =
      every_less (HasRoom (room + used)) (HasRoom room) boxes a new (room_less used room)
      (room_left used room old new u (at (HasRoom (room + used)) all)) all

  pub kept_set : (room : ℕ) → HasUsed 0 old new → Every (HasRoom room) boxes → Every (HasRoom room) (set boxes a new)
  kept_set room u all = every_set (HasRoom room) boxes a new all (room_kept room old new u (at (HasRoom room) all))

  pub same_set : tray new ≡ tray old → map tray (set boxes a new) ≡ map tray boxes
  same_set e = map_same tray boxes a new old within (e ∙ ap tray is)

  pub changed : (g : Tray → Tray) → tray new ≡ g (tray old)
      → map tray (set boxes a new) ≡ set (map tray boxes) a (g (tray_at (map tray boxes) a))
  changed g e = map_changed tray g boxes a new old empty_tray within (e ∙ ap (λ m. g (tray m)) is)

-- phases

pub prepared_less : (room commands : ℕ) (m : Mailbox) → IsPrepared room (commands + 1) m → IsPrepared room commands m
prepared_less room commands m p = record { has_room = p.has_room; commands_fit = omega (arith, p.commands_fit) }

asked_room : (room : ℕ) (old new : Mailbox) → HasOthers old new → HasRoom room old → HasRoom room new
asked_room room old new o r = record {
  copies = rw (o.copies, o.opening, o.late) r.copies;
  opening = rw (o.opening, o.late) r.opening;
  late = rw o.late r.late;
  unanswered = rw o.unanswered r.unanswered;
  lost = rw (o.lost, o.unanswered) r.lost;
}

asked_kept : (room commands : ℕ) (old new : Mailbox) → HasOthers old new → spare old.commands ≤ spare new.commands + 1
    → IsPrepared room (commands + 1) old → IsPrepared room commands new
asked_kept room commands old new o le p =
    record { has_room = asked_room room old new o p.has_room; commands_fit = omega (arith, le, p.commands_fit) }

pub asked_set : (boxes : List Mailbox) (a : ℕ) (old new : Mailbox) → a < length boxes → old ≡ get_or boxes a old
    → HasOthers old new → spare old.commands ≤ spare new.commands + 1
    → (room commands : ℕ) → Every (IsPrepared room (commands + 1)) boxes
    → Every (IsPrepared room commands) (set boxes a new)
asked_set boxes a old new within is o le room commands all =
    every_less (IsPrepared room (commands + 1)) (IsPrepared room commands) boxes a new (prepared_less room commands)
    (asked_kept room commands old new o le (at boxes a old new within is (IsPrepared room (commands + 1)) all)) all

pub prepared_room : (room commands : ℕ) (boxes : List Mailbox) → Every (IsPrepared room commands) boxes
    → Every (HasRoom room) boxes
prepared_room room commands boxes all = every_weaker (IsPrepared room commands) (HasRoom room) boxes
    (λ m p. p.has_room) all

pub prepared_some : (room commands : ℕ) (boxes : List Mailbox) → 0 < commands → Every (IsPrepared room commands) boxes
    → Every (IsPrepared 0 1) boxes
prepared_some room commands boxes some all =
    every_weaker (IsPrepared room commands) (IsPrepared 0 1) boxes
    (λ m p. record {
      has_room = weaker room 0 m (omega arith) p.has_room;
      commands_fit = omega (arith, some, p.commands_fit);
    }) all
