mod Totals
mod Keeps
mod Steps
mod Rising
