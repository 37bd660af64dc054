mod BlockRows
mod Needs
mod LayoutRows
