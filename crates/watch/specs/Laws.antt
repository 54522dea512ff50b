-- A law of the watched wire that a proof cites.
use Rattle.std.specs.Prelude.{ℕ, ◌≡◌, List}
use Rattle.std.proofs.Common.{ap, ap₂, ◌∙◌}
use Rattle.refusals.specs.Numbers.{Verdict}
use Rattle.address.specs.declared.Hit.{Hit}
use Rattle.firmware.specs.declared.State.{State}
use Rattle.steps.specs.declared.Item.{Item}
use Rattle.steps.specs.Step.{Stepped, stepped, step_of}
use Rattle.watch.specs.declared.World.{World}
use Rattle.watch.specs.Watch.{Listened, world_of, watched_of, scene, item_seen, hit_heard, scene_of, scene_after}

-- What an item's step leaves, and what the reader made of the item.
pub item_watched :
    (w : World) (memory : List ℕ) (item : Item) {seen : Listened} {hit : Hit} {verdict : Verdict} {next : State} {left : List ℕ}
    → seen ≡ item_seen w item → hit ≡ hit_heard w.state.mssp.config seen.heard → stepped verdict next left ≡ step_of w.state memory item
    → scene (watched_of (world_of next seen.reader) seen.heard hit) left ≡ scene_after w memory item
item_watched w memory item {seen} {next = next} {left = left} e g f =
    ap (λ (h : Hit). scene (watched_of (world_of next seen.reader) seen.heard h) left) g
    ∙ ap₂ (λ (x : Stepped) (y : Listened). scene_of w.state.mssp.config x.left y) f e
