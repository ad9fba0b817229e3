use Rattle.std.proofs.Common.{◌≡◌, true, false, refl, sym, ap, ◌∙◌, rules}
use Rattle.std.specs.FinMap as finite
use Rattle.std.specs.BTreeMap as tree
use Rattle.someip_tables.specs.Endpoints.{address_cmp}
use Rattle.someip_tables.specs.EndpointOrder.{addresses_total, exact_addresses}
use Rattle.someip_tables.specs.Tables.{map_of}
use Rattle.someip_tables.proofs.Trees.{map_of-insert}
use Rattle.sd_session.specs.Peers.{stamps_of, stamps_or_none, told_by, stamps_after}
use Rattle.sd_session.proofs.PeerLemmas.{known_is, place_is}
use Rattle.sd_session.proofs.peers.enter.Goals as goal

pub returns-then-not-has_room : goal.returns-then-not-has_room
returns-then-not-has_room c =
    let known : c.copied-known.result ≡ tree.get address_cmp c.args.peers.now c.args.peer = search rules in
    let none : c.has_room.result ≡ false = search rules in
    (sym (place_is c.args.peers.now c.args.limit c.len.result c.args.peer c.copied-known.result known c.len.ensures.len c.len.ensures.ordered) ∙ sym c.has_room.ensures ∙ none, refl)

pub returns-in-Ok : goal.returns-in-Ok
returns-in-Ok c =
    let held = map_of address_cmp c.args.peers.now.entries in
    let known : c.copied-known.result ≡ tree.get address_cmp c.args.peers.now c.args.peer = search rules in
    let place : c.has_room.result ≡ true = search rules in
    let stamps : c.stamps_or_none.result ≡ stamps_of held c.args.peer = c.stamps_or_none.ensures ∙ ap stamps_or_none (known_is c.args.peers.now c.args.peer c.copied-known.result known) in (
      sym (place_is c.args.peers.now c.args.limit c.len.result c.args.peer c.copied-known.result known c.len.ensures.len c.len.ensures.ordered) ∙ sym c.has_room.ensures ∙ place,
      c.judge-seen.ensures.seen ∙ ap (told_by c.args.channel c.args.stamp) stamps,
      map_of-insert addresses_total exact_addresses c.args.peers.now.entries c.insert.new.self.entries c.args.peer _ c.in-Ok.ensures.updates.0
          ∙ ap (finite.insert held c.args.peer) (c.judge-seen.ensures.after ∙ ap (stamps_after c.args.channel c.args.stamp) stamps),
    )

pub returns-in-Err : goal.returns-in-Err
returns-in-Err c =
    let known : c.copied-known.result ≡ tree.get address_cmp c.args.peers.now c.args.peer = search rules in
    let place : c.has_room.result ≡ true = search rules in (
      sym (place_is c.args.peers.now c.args.limit c.len.result c.args.peer c.copied-known.result known c.len.ensures.len c.len.ensures.ordered) ∙ sym c.has_room.ensures ∙ place,
      sym (known_is c.args.peers.now c.args.peer _ refl) ∙ c.in-Err.ensures.absent,
      ap (map_of address_cmp) c.in-Err.ensures.err,
    )
