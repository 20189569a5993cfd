use Rattle.std.proofs.Common.{◌≡◌, ◌<◌, Bool, List, length, not, refl, sym, ap, subst, ◌∙◌}
use Rattle.std.specs.Prelude.{◌&&◌}
use Rattle.std.proofs.lemmas.Bool.{and_from, not_from_false}
use Rattle.std.proofs.Math.Bool.{and-false}
use Rattle.weave_entries.specs.SessionReplay.{RepliesToLast, SessionState}
use Rattle.weave_entries.specs.declared.session_log.SessionEntry.{SessionEntry}
use Rattle.weaver_core.specs.Sessions.{is_open_at, session_at, with_reply_at}
use Rattle.weaver_core.specs.GivingReplies.{is_flying, reply_of_change}
use Rattle.weave_entries.specs.declared.session_log.SessionDeed.TheVariants.{Replied}
use Rattle.weaver_core.proofs.AtClients.{after-room, same-session}
use Rattle.weaver_core.proofs.giving_replies.reply_to_one.Goals as goal

-- not begun, or replied to
pub returns-then-not-is_open-clause-replies : goal.returns-then-not-is_open-clause-replies
returns-then-not-is_open-clause-replies c = (ap (λ (b : Bool). b && not (is_flying c.args.gates.now c.args.asked.now.gate c.args.request)) (sym c.is_open-is_open.ensures.open ∙ c.if-not-is_open.true), refl)

-- in flight
pub returns-then-is_flying-clause-replies : goal.returns-then-is_flying-clause-replies
returns-then-is_flying-clause-replies c =
    (ap (λ (b : Bool). is_open_at c.args.clients.now c.args.asked.now.session c.args.request && not b) (sym c.flies-is_flying.ensures ∙ c.if-is_flying.true) ∙ and-false _, refl)

pub replied-requires-clause-turn : goal.replied-requires-clause-turn
replied-requires-clause-turn c =
    let session = same-session c.args.clients.now c.reserve.new.self c.args.asked.now.session c.reserve.ensures.same in
    subst (λ (state : SessionState). RepliesToLast state c.args.request) (sym session) (c.is_open-is_open.ensures.last c.if-not-is_open.false)

pub returns-clause-replies : goal.returns-clause-replies
returns-clause-replies c =
    let was = c.args.clients.now in
    let s = c.args.asked.now.session in
    let r = c.args.request in
    let stamp : c.last-stamp.result ≡ (session_at was s).last = c.last-stamp.ensures ∙ ap (λ (state : SessionState). state.last) (same-session was c.reserve.new.self s c.reserve.ensures.same) in
    let reply : record { request = r; stamp = c.last-stamp.result; state = c.in_ok-state.state } ≡ reply_of_change c.args.store.now (session_at was s).last r = λ i. record { request = r; stamp = stamp i; state = c.in_ok-state.ensures i } in
    record {
      can_be = and_from _ _ (sym c.is_open-is_open.ensures.open ∙ c.if-not-is_open.false) (not_from_false _ (sym c.flies-is_flying.ensures ∙ c.if-is_flying.false));
      adds = after-room was c.reserve.new.self c.replied.new.self s (Replied r) c.reserve.ensures.same c.replied.ensures.replied;
      values = c.replied.ensures.values ∙ (λ i. with_reply_at (c.reserve.ensures.same.values i) s (reply i));
    }

-- the room taken first changes no log
pub replied-requires-clause-there : goal.replied-requires-clause-there
replied-requires-clause-there c = subst (λ (logs : List (List SessionEntry)). c.args.asked.now.session < length logs) (sym c.reserve.ensures.same.logs) c.requires.session
