-- The way through an item: what the code knows of its parts, and what follows.
use Rattle.std.specs.Prelude.{ℕ, ◌≡◌, Bool, ◌&&◌, List}
use Rattle.std.proofs.Common.{ap}
use Rattle.wire.specs.declared.Edge.{Edge}
use Rattle.wire.specs.Wire.{scl_of, sda_of}
use Rattle.mssp.specs.declared.Module.{Module}
use Rattle.sampling.specs.Rules.{sampled}
use Rattle.firmware.specs.declared.State.{State}
use Rattle.firmware.specs.Handler.{Served, served, state_of}
use Rattle.words.specs.Words.{is_called, storing, met_if, edge_at, in_conflict, events_of, lines_of, standing_of, word_by, word_of, DrawnItem, drawn, drawn_item}

-- What is drawn of an item, by the state that it meets.
abbrev drawn_from : Served → ℕ → Served → DrawnItem
drawn_from w item v =
    let next : State = state_of (sampled v.state.mssp (scl_of item) (sda_of item)) v.state.handler in
    drawn (served next v.bytes) (standing_of next) (word_of w item next v.state.mssp)

module _ (w : Served) (item : ℕ) {called stores : Bool} (c : called ≡ is_called w.state.mssp.phase item) (t : stores ≡ storing w.state) where
  module _ {before : State} {left : List ℕ} (m : served before left ≡ met_if called w) where
    -- The handler, the edge and the conflict, the sample, then the word.
    pub item_drawn :
        {e : Edge} {conflict : Bool} {events lines stands word : ℕ} {n : Module} → e ≡ edge_at before.mssp item
        → conflict ≡ in_conflict before.mssp.phase item → events ≡ events_of called (called && stores) e conflict
        → n ≡ sampled before.mssp (scl_of item) (sda_of item) → lines ≡ lines_of n → stands ≡ standing_of (state_of n before.handler)
        → word ≡ word_by stands lines events
        → drawn (served (state_of n before.handler) left) stands word ≡ drawn_item w item
    item_drawn edge f v is l s o = rw (o, s, l, v, edge, f, is, t, c) (ap (drawn_from w item) (rw c at m))
