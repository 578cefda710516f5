mod Examples
pub mod InTime
pub mod Lanes
pub mod Moving
pub mod Merging
pub mod Chosen
pub mod Beginning
pub mod Ordering
pub mod AtFirst
pub mod Lodes
pub mod Distinct
pub mod Taking
pub mod AllTracks
pub mod Turning
pub mod Paging
pub mod Rising
