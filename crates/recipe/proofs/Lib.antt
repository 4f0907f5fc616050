mod Back
mod Law
mod Parse
mod Show
mod Walk
